-- From the rules to the definition: what the rules read is read.
pub mod Pieces
pub mod Gaps
pub mod Texts
