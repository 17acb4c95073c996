-- Definitions for the calls on a memory and its class table. No contract of the allocator cites these.
pub mod BlockAt
pub mod Extension
pub mod Join
pub mod Legible
pub mod LiveBlock
pub mod Pool
pub mod Previous
pub mod Removal
pub mod Resize
pub mod Rest
pub mod Standing
pub mod Touched
pub mod Walk
