-- Correspondences and events as arrays. In reading order.
pub mod Lines
pub mod Theorems
pub mod laws
