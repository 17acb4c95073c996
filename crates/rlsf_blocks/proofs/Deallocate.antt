-- A used block becomes free.
pub mod Addresses
pub mod Loaded
pub mod Marks
pub mod TakenIfFree
pub mod Releases
