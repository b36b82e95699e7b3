-- How the code of `watch` orders its tests: no rules.
pub mod WatchInPlace
