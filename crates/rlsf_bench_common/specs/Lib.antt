-- The definitions of a run of steps, in reading order: `Draws`, `Runs`, `Slots`.
pub mod Draws
pub mod Runs
pub mod Slots
