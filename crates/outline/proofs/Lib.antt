-- Laws that only the proofs of this crate's functions use.
pub mod Steps
pub mod Walk
pub mod Words
pub mod Clocks
