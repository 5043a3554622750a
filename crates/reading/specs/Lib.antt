-- The definitions that the contracts cite.
pub mod Spelling
pub mod Rules
pub mod Laws
pub mod Examples
