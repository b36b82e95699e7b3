-- The window of one input among the lists of all, as the code cuts them.
pub mod Parting
