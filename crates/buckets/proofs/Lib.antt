pub mod Divisions
pub mod Told
pub mod Edges
