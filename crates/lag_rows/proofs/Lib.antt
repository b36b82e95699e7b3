-- Laws of the sums that the code makes.
pub mod Parts
pub mod Tallies
pub mod Taken
pub mod BlockSums
