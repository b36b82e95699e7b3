pub mod Patterns
pub mod Printing
