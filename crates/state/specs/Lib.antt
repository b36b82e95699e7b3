-- The definitions that the contracts of `state` cite.
pub mod Coalesce
