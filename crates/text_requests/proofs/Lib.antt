pub mod Kept
pub mod Loads
pub mod Loops
pub mod Sixteen
pub mod Told
