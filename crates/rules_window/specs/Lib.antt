-- The rules of a lag window (document 01, "LagWindow").
pub mod Window
pub mod Quantile
pub mod ColumnSums
pub mod WholeWindow
pub mod Checks
pub mod Parts
-- the lists lent for a window
pub mod Lending
-- how the code orders the steps of a push: no rule
pub mod InPlace
