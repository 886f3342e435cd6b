-- What is proved over the definitions of `paths`, and what the proofs of its functions share.
pub mod Cell
pub mod Rest
pub mod Picked
pub mod Mask
pub mod Span
pub mod Levels
pub mod Table
pub mod Walk
pub mod laws
pub mod Examples
pub mod Theorems
