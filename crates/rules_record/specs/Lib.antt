-- The record of a supervisor and the lists lent for it.
-- what is in it, and how the instances are pruned
pub mod States
pub mod Slots
pub mod Inputs
pub mod Sized
pub mod Flows
pub mod Instances
pub mod Prune
pub mod Commands
pub mod Lent
pub mod Lending
-- checks 1 to 8, and check 6 place by place; Facts says the same as propositions
pub mod Checks
pub mod WholeRecord
pub mod WholePlaces
pub mod Facts
-- what a step and a call leave
pub mod Effects
pub mod Reply
