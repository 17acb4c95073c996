-- Definitions for private functions.
pub mod Moves
pub mod UsedBlocks
