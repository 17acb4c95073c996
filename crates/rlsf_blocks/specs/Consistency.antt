-- Definitions for the check of a memory and a class table. Read `Pools`, `Linked`, `Layout` and `Heads` first, then `Consistent`.
pub mod Consistent
pub mod Heads
pub mod Layout
pub mod Linked
pub mod Pools
