-- The definitions that speak of the type `LagWindow`; the rules of a window stand in rules_window.
pub mod Lent
pub mod Fit
