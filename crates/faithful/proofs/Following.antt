-- The ideal machine follows the person.
pub mod Chain
pub mod Outcomes
pub mod Calls
pub mod Scripts
pub mod Turns
pub mod MoreTurns
