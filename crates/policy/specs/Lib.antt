-- The definitions that the contracts of `policy` cite.
pub mod Settings
pub mod Need
