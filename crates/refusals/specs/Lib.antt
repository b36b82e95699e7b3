-- The definitions that the contracts of the calls cite.
pub mod Numbers
