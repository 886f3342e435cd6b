-- What the contracts of `whole` cite, and what is proved of it. To be believed: Whole and Pairs, and what Theorems states. Examples compute.
-- What is proved of it stands in proofs/: Theorems, laws, Examples.
pub mod Whole
pub mod Pairs
