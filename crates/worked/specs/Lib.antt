-- The definitions that the contract cites.
pub mod Facts
pub mod Table
