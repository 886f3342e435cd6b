-- What is known of files and sources, gathered from a sheet and a manifest's tables. In reading order.
pub mod Gathered
pub mod Theorems
pub mod laws
