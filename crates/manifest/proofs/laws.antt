-- The laws that the theorems rest on, and that code and its proofs cite.
pub mod Accepted
pub mod Bools
pub mod Bytes
pub mod Cells
pub mod Cited
pub mod Judge
pub mod Judging
pub mod Lists
pub mod Members
pub mod Opening
pub mod Order
pub mod Ranges
pub mod Sound
pub mod Table
pub mod Version
pub mod Views
pub mod Walk
