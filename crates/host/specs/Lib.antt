-- The definitions that the contracts cite.
pub mod Meaning
pub mod Memory
pub mod Lists
pub mod Tapes
