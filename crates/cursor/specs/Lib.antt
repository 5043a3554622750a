-- The definitions that the contracts cite.
pub mod Rests
pub mod Onward
