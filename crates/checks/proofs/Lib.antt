-- Lemmas of the proofs.
mod Ranges
