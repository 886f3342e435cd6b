-- What the merge is: from two byte strings and the lent lengths to the outcome. In reading order.
-- What is proved of it stands in proofs/: Demands, laws, Examples.
pub mod Facts
pub mod Machines
pub mod Refusals
pub mod Timeline
pub mod Answers
pub mod Merged
