-- The lemmas that the proofs share.
pub mod Coming
pub mod Setting
pub mod Values
pub mod Testing
pub mod Reading
