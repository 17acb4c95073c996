-- Lemmas on the in-band layout of blocks, one folder for each kind of call.
pub mod Allocate
pub mod Chunks
pub mod Consistency
pub mod Counting
pub mod Deallocate
pub mod LongerChunks
pub mod Payloads
pub mod Refused
pub mod Reallocate
pub mod RepresentedStates
pub mod Walking
pub mod Words
