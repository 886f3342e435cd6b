-- What the tables of a manifest and a sheet come to together. In reading order.
-- What is proved of it stands in proofs/: Theorems, Ends, laws.
pub mod Joined
pub mod Own
