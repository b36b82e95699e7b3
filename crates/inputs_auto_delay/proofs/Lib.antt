-- The steps of an input's tick, as the code makes them.
pub mod ArriveCases
pub mod WindowAsks
pub mod P999Cases
