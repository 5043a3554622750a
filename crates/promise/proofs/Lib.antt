-- What every list of calls keeps: what holds between calls, that each call keeps it, and what it gives.
pub mod Invariant
pub mod Translates
pub mod Starts
pub mod Advances
pub mod Histories
pub mod Promised
pub mod Plenty
pub mod Carrying
