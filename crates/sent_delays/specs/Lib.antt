-- What the commands tell of an input's delay, and of the times of the last SetDelay and SetInput.
pub mod Last
pub mod Delays
pub mod Times
