-- Laws for the proofs.
pub mod Answers
pub mod Fronts
pub mod Told
pub mod Ended
