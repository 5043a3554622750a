-- The definitions that the contracts cite.
pub mod Carried
pub mod Ops
