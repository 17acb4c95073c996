-- The front of a free block becomes a used block.
pub mod Placements
pub mod Rests
pub mod TakenOut
