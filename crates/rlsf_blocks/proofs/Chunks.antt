-- A range becomes chunks.
pub mod ChunkWrites
pub mod Filtered
pub mod NewChunks
pub mod Pools
pub mod Removed
pub mod RemovedRows
