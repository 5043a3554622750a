-- From the definition to the rules: what is read is read by the rules.
pub mod Pieces
pub mod Gaps
pub mod Texts
