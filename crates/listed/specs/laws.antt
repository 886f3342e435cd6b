-- What the functions promise of each other, and the laws that their proofs use: of tests and entries in general, then one file for each of the promises; and of settled names.
pub mod Rules
pub mod Parts
pub mod Slots
pub mod Judged
pub mod Sizes
pub mod Cited
pub mod Twice
pub mod Cells
pub mod Alike
pub mod Firsts
pub mod Names
pub mod Sized
pub mod Onward
