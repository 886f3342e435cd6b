-- The print of a text. In reading order.
pub mod Prints
pub mod Theorems
pub mod laws
