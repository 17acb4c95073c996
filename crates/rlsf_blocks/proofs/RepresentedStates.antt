-- States that values of the allocator represent.
pub mod Counted
pub mod EmptyState
pub mod FreeBlocks
pub mod Neighbours
pub mod Readers
pub mod SpareBytes
pub mod SpareWords
