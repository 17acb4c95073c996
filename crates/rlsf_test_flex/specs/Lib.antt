-- The definitions of the sources of the tests.
pub mod Cursor
pub mod HeapCursor
pub mod Questions
