-- The rules of the other calls (document 01, "Supervision"): of each its checks, what it does, its reply.
-- `new`
pub mod NewChecks
pub mod NewRecord
pub mod NewLoading
pub mod NewStart
pub mod NewReply
-- `route`
pub mod RouteChecks
pub mod Route
pub mod RouteReply
-- `update`, `confirm_delay`
pub mod UpdateChecks
pub mod Update
pub mod ConfirmDelay
pub mod UpdateReply
pub mod DeskDelays
-- `status`, `has_channels`, `settled`
pub mod StatusChecks
pub mod Status
pub mod HasChannels
pub mod Settled
