-- The worked answers, each computed.
pub mod Pushes
pub mod Windows
pub mod Holds
pub mod Fifteen
