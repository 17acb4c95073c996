-- Lemmas about partitions.
pub mod Tiles
pub mod Lists
