-- Lemmas about runs (payloads by their names, pools, and calls of the reference model; `RunStates` has the run so far), about replays (a text
-- is written, a run has a part of a memory, and is printed), and about moments (the blocks and the counts of a state before and after an op).
pub mod ApartPools
pub mod AppendedChunks
pub mod Events
pub mod Lengthened
pub mod Named
pub mod NamedPayloads
pub mod NewPools
mod Ops
pub mod OpsDone
pub mod Outcomes
pub mod Overlapping
mod Passing
mod PoolBlocks
pub mod PoolRuns
pub mod PrintedOps
pub mod RunStates
pub mod SamePools
pub mod SpareBytes
mod Steps
pub mod Walked
mod Weights
pub mod WiderMemory
pub mod Writing
