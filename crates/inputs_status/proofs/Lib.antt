-- The status of an input, as the code makes it.
pub mod ShownCases
pub mod StatusNumbers
