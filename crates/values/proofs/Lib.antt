-- Laws that only the proofs of this crate's functions use.
pub mod Widths
pub mod Compare
pub mod Onward
pub mod Digits
pub mod Ending
