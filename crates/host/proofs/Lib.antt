-- The lemmas that the proofs share.
pub mod Steps
pub mod Fronts
pub mod Fives
pub mod Selves
