-- The lemmas that the proofs share.
pub mod Spans
pub mod Steps
pub mod Turns
