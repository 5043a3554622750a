-- The lemmas that the proofs share.
pub mod Joining
pub mod Passing
pub mod Telling
