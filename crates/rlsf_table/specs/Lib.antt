-- Definitions for the class table and the lists of free blocks. Read `Table`, `FreeList` and `FreeTable` first.
pub mod Counts
pub mod FreeList
pub mod FreeTable
pub mod Rewrites
pub mod Steps
pub mod Table
