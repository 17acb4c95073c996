-- Definitions for the shared heap. Read `Shared` first.
pub mod Locks
pub mod Nameless
pub mod Owners
pub mod Shared
pub mod SharedLends
pub mod SharedReallocation
