-- The definitions that the contracts cite.
pub mod Trees
pub mod Operators
pub mod Visibility
