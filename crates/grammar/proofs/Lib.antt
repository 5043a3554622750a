-- The lemmas that the proofs share.
pub mod Choosing
pub mod Questions
pub mod OneType
pub mod Levels
pub mod Streams
pub mod Complete
pub mod Sound
pub mod MoreRoom
pub mod OneTree
pub mod Cells
pub mod Finding
