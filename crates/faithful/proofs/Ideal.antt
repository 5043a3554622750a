-- The ideal machine: fixed cells apart from the stack, and no bound on either.
pub mod Machine
pub mod Fixed
pub mod Runs
pub mod Events
