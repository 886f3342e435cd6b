-- What is found in an index. In reading order.
pub mod Finds
pub mod Theorems
pub mod laws
