-- What a manifest means: refusals 1 to 24 and the meaning of an accepted one. To be believed: Kinds to Manifest, Same and Statements, and what
-- Theorems and Related state. In reading order.
-- What is proved of it stands in proofs/: Theorems, laws, Examples.
pub mod Names
pub mod Kinds
pub mod View
pub mod Rows
pub mod Rules
pub mod Meaning
pub mod Manifest
pub mod Same
pub mod Statements
pub mod Related
