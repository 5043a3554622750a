-- From the rules to the judge: what the grammar admits is accepted.
pub mod Expressions
pub mod Commands
pub mod Declarations
pub mod Texts
