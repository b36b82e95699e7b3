-- An input cleared, as the code makes it.
pub mod ClearParts
