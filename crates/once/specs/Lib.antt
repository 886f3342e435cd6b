-- Refusals 14 to 18: ids, what stands twice, and members that ask for others. To be believed: Once, and what Theorems states. In reading order.
-- What is proved of it stands in proofs/: Theorems, laws.
pub mod Once
pub mod laws
