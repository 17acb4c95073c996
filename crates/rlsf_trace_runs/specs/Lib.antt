-- The definitions of a run, in reading order: `Runs`, `Events`, `Names`, `Whole`; then those of a replay (`Replays`, `Output`, `Parts`),
-- and of runs that are watched (`Moments`).
pub mod Events
pub mod Moments
pub mod Names
pub mod Output
pub mod Parts
pub mod Replays
pub mod Runs
pub mod Steps
pub mod Whole
