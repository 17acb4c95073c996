-- Definitions for the calls of a heap. Read `Calls` first.
pub mod Blocks
pub mod Calls
pub mod Lengths
pub mod Parts
pub mod Replies
pub mod Resizing
