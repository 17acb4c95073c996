-- An iteration from block to block.
pub mod Begins
pub mod Blocks
pub mod ChunkEnds
pub mod Listed
pub mod Listing
pub mod UnfinishedWalk
pub mod Places
pub mod Rows
pub mod Sizes
pub mod Steps
pub mod Totals
