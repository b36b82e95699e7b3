-- The definitions that the contracts of `delay_hold` cite, in document 01's order.

pub mod Steps1To3
pub mod Step4Peaks
pub mod Step4InPlace
pub mod Steps5To8
pub mod Next
pub mod Lending
pub mod Whole
pub mod Checks
