-- What is proved of the numbers.
pub mod Theorems
