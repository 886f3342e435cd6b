-- Laws that the proofs of the functions use.
pub mod Passed
pub mod Rows
pub mod Steps
pub mod Made
pub mod Turns
pub mod Counted
