-- The code of a well-scoped script stands in its table where it should.
pub mod Addresses
pub mod Standing
pub mod Lengths
pub mod Entries
pub mod Bodies
pub mod Routines
pub mod Program
