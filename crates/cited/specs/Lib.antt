-- Refusals 19 to 24: cited files and machines, offsets, and clocks related to themselves. In reading order.
-- What is proved of it stands in proofs/: laws.
pub mod Cited
pub mod Itself
pub mod laws
