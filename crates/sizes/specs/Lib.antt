-- Refusals 10 to 13: sizes, clock names, machine with machines, empty names. To be believed: Sizes, and what Theorems states. In reading order.
-- What is proved of it stands in proofs/: Theorems, laws.
pub mod Sizes
