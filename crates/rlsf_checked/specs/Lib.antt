-- Definitions for the checked allocator. Read `Checked`, `Pools` and `Answers` first.
pub mod AllBlocks
pub mod Answers
pub mod Checked
pub mod Pools
pub mod Removal
pub mod Results
pub mod Sizing
pub mod Steps
