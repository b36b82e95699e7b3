-- What the code makes of an input's window.
pub mod Windows
