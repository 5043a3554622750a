-- The lemmas that the proofs share.
pub mod Skipping
pub mod Fronts
pub mod Spelling
pub mod Pieces
pub mod Streams
pub mod Table
