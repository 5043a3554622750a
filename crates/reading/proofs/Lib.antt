-- Lemmas.
pub mod Lists
pub mod Bytes
pub mod Tables
pub mod Fronts
pub mod Values
pub mod Shapes
pub mod Words
pub mod FromReader
pub mod FromRules
pub mod Parts
pub mod Standing
pub mod Spellings
pub mod Worked
