-- The definitions that the contracts of `timing` cite.
pub mod Clock
