-- The paths and the names of a manifest, each read once. What is told of paths is defined in `finds`, `prints`, `sizes` and `once`; of names in `Settled` and `sizes`.
pub mod Settled
pub mod Theorems
pub mod laws
