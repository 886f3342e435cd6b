-- The lines that the programs write. In reading order.
-- What is proved of it stands in proofs/: Theorems, laws, Examples.
pub mod Written
pub mod laws
