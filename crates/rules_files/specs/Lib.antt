-- The delay file: its bytes, its reader and its writer.
pub mod Files
pub mod ReadFile
pub mod Table
pub mod WriteFile
pub mod WriteInPlace
