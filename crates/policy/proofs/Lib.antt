pub mod Checks
pub mod Laws
pub mod Shares
pub mod Answers
pub mod Edges
