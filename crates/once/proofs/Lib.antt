-- Laws that the proofs of the functions use: general ones, one file for each rule, and the order.
pub mod Loops
pub mod Cells
pub mod Ids
pub mod OutOfRange
pub mod Twice
pub mod ClocksAlone
pub mod MachineAlone
pub mod SyncAlone
pub mod Order
pub mod laws
pub mod Theorems
