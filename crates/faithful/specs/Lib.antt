-- What is said of the table of a script, beside the person who follows the script.
pub mod Turns
pub mod Outcomes
pub mod Faithful
