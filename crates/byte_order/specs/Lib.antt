-- Bytes of numbers.
pub mod Bytes
