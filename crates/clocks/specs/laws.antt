-- What the theorems and the proofs cite.
pub mod Order
pub mod Chosen
pub mod Walk
pub mod Given
pub mod Rows
pub mod Chains
pub mod Firsts
pub mod Answered
pub mod Known
pub mod Same
pub mod Swaps
