-- The rules of a tick (document 01, "Supervision").
-- one input: its lags and late events, its automatic delay
pub mod Lags
pub mod LateEvents
pub mod AutoDelay
-- what a tick brings, its checks, what it does, what it leaves
pub mod Looks
pub mod TickChecks
pub mod Tick
pub mod TickReply
pub mod TickAnswer
pub mod TickLeaves
-- what inner functions ask of their callers: no rules
pub mod InputReady
pub mod TickAsked
