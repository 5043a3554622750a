-- The machine goes in step with the ideal one.
pub mod Tests
pub mod Memory
pub mod Faults
pub mod Steps
pub mod Runs
pub mod Ends
pub mod Program
pub mod Moments
