pub mod Lengths
pub mod LentTo
