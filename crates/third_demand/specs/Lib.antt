-- The third demand's statement.
pub mod Calls
pub mod Demand
