-- The merge for programs in C and Rust. In reading order.
pub mod Plain
pub mod laws
pub mod Theorems
