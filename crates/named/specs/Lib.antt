-- The named machines. In reading order.
-- What is proved of it stands in proofs/: Theorems, laws.
pub mod Named
pub mod laws
