-- The definitions of journals, in reading order: `Entries`, `Passes`, `Replay`, `Memory`, `Close`, `Laws`.
pub mod Close
pub mod Entries
pub mod Laws
pub mod Memory
pub mod Passes
pub mod Replay
