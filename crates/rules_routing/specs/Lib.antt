-- The rules of routing (document 01, "Supervision").
pub mod SetDelay
pub mod TryOpen
pub mod ReaderCheck
pub mod Watch
pub mod Clear
