-- Laws that the proofs of the functions use.
pub mod Judged
pub mod Nested
pub mod Size
pub mod Clock
pub mod Both
pub mod Order
pub mod laws
pub mod Theorems
