-- The lemmas that the proofs share.
pub mod Scanning
pub mod Seeing
pub mod Counting
pub mod Turning
pub mod Declaring
pub mod Typing
