pub mod Edges
pub mod Pairs
