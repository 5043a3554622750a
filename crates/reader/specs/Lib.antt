-- The definitions that the contracts cite.
pub mod Classes
pub mod Pieces
pub mod Streams
