-- From the judge to the rules: what is accepted, the grammar admits.
pub mod Around
pub mod SoFar
pub mod Settling
pub mod Tests
pub mod Bodies
pub mod Blocks
pub mod Tokens
pub mod Texts
