-- An event's answer. In reading order: the answers, notions of the theorems, the theorems, examples; then the laws.
pub mod Answers
pub mod Statements
pub mod Theorems
pub mod Examples
pub mod laws
