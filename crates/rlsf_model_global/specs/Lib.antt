-- Definitions and laws of the reference model behind the lock. Read `Cursor`, `Rows` and `Heap` first.
pub mod Constant
pub mod Cursor
pub mod Heap
pub mod History
pub mod Isolation
pub mod Left
pub mod Moves
pub mod Pages
pub mod Replays
pub mod Rows
pub mod Standing
pub mod Steps
