-- The definitions of the calls behind the lock. Read `Locked` first.
pub mod Kept
pub mod LiveRows
pub mod Locked
pub mod Memory
pub mod Refusals
pub mod Results
pub mod Steps
pub mod Words
pub mod Journal
