-- Laws that the proofs of the functions use.
pub mod Tested
pub mod Words
pub mod Steps
pub mod Recorded
pub mod Texts
