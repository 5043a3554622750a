-- The definitions that the contracts cite.
pub mod Apart
pub mod Runs
