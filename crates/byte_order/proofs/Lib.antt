-- Laws of bytes.
pub mod Edges
pub mod ByteLoops
pub mod Written
pub mod Inverse
