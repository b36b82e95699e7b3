-- The definitions of the third demand of one input.
pub mod View
pub mod Events
pub mod Stretch
pub mod Whole
pub mod Demand
