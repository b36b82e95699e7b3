-- Laws of what the commands tell.
pub mod Words
pub mod Notes
pub mod Steps
pub mod Ticks
pub mod OneInput
pub mod Starts
pub mod Calls
