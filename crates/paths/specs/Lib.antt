-- In reading order: the path rule over any graph, the graph that a matrix holds with what the functions answer, the theorems, an example; then the laws.
-- What is proved of it stands in proofs/: Theorems, laws, Examples.
pub mod Paths
pub mod Matrix
pub mod Statements
pub mod laws
