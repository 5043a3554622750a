-- Accepted scripts are well scoped, and a text is one script.
pub mod Trees
pub mod OpenBlocks
pub mod Settling
pub mod Tokens
pub mod Accepted
pub mod OneScript
