pub mod Moving
pub mod Resting
