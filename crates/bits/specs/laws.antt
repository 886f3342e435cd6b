-- Laws of fields and of the numbers that bits write, for theorems, proofs and other crates.
pub mod Number
pub mod Slices
pub mod Words
pub mod BigEndian
pub mod Fields
pub mod Readings
