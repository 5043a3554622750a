-- The statements that the contracts cite.
pub mod Runs
