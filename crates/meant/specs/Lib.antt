-- What may be asked of a manifest's tables. In reading order.
-- What is proved of it stands in proofs/: Theorems, laws.
pub mod Meant
pub mod Told
