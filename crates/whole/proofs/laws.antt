-- The laws that the theorems rest on, and that callers and proofs cite.
pub mod Ints
pub mod Keys
pub mod Lists
pub mod Order
pub mod Places
pub mod Range
pub mod Sums
