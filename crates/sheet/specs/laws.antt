-- Laws of sheets for theorems, proofs and other crates.
pub mod Ended
pub mod Reads
pub mod Listed
pub mod Places
pub mod Repeats
pub mod Prints
pub mod Keys
pub mod Decides
pub mod Order
pub mod Flags
pub mod Valid
