-- A JSON text (RFC 8259) as a tree, with at most 16 levels. In reading order.
-- What is proved of it stands in proofs/: Theorems, laws, Examples.
pub mod Tree
pub mod Document
pub mod Items
