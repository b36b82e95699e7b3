-- The definitions that the contracts of `buckets` cite.
pub mod Ranges
