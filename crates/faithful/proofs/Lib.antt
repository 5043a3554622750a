-- The table does what the person does, in the order of the argument: accepted scripts are well scoped; there is a
-- machine without bounds; the code stands in the table; that machine follows the person over it; the machine goes in
-- step with that one; the laws.
pub mod Scoped
pub mod Ideal
pub mod Placed
pub mod Following
pub mod Lockstep
pub mod Alike
