-- The marked examples of document 01, proved together, and the merges that the promise shuts out. In reading order; then the laws.
-- What is proved of it stands in proofs/: Marked, ShutOut, laws.
pub mod Inputs
pub mod Example
