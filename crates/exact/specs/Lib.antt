-- The merge's definitions beside document 01's sentences: the words, the theorems; then the laws.
-- What is proved of it stands in proofs/: Exact, laws.
pub mod Words
