-- The looks of the inputs in use, and lent lists that stand as they were lent.
pub mod Shown
pub mod Kept
