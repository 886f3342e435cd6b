-- Correspondences and the three graphs. In reading order: the list of a pair, the graphs, the theorems, examples; then the laws.
pub mod Links
pub mod Graphs
pub mod Theorems
pub mod Examples
pub mod laws
