-- The definitions that the contracts cite.
pub mod Apart
pub mod Parts
pub mod Rows
pub mod Says
