-- Laws of routing.
pub mod Answers
pub mod SetDelayStored
pub mod TryOpenCases
pub mod TryOpenFrame
pub mod TryOpenOutcomes
pub mod WatchCases
pub mod WatchFrame
pub mod WatchOutcomes
pub mod TryOpenKeeps
pub mod SettingsKept
pub mod SetDelayKeeps
pub mod WatchKeeps
pub mod ClearFrames
