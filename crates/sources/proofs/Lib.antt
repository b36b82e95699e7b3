pub mod Calls
pub mod Cases
pub mod Edges
pub mod Wholeness
