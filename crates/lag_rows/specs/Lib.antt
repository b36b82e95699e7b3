-- What the code keeps while it sums: no rule.
pub mod Tallies
pub mod Blocks
