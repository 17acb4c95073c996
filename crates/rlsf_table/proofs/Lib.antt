-- Lemmas on the class table and the lists of free blocks in a memory.
pub mod Costs
pub mod FreeLists
pub mod Parameters
pub mod Tables
pub mod Words
