-- The index of a manifest: where its known members stand in the text, as numbers. In reading order.
-- What is proved of it stands in proofs/: Theorems, laws, Examples.
pub mod Index
pub mod Cited
