-- Refusals 8 and 9 of the manifest object that stands at a position of a text. In reading order.
pub mod Members
pub mod Theorems
pub mod Examples
pub mod laws
