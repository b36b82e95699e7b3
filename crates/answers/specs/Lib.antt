-- The worked answers of document 01.
pub mod Fifteen
