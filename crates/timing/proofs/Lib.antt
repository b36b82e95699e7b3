pub mod Conversion
pub mod Edges
