-- Lemmas about the sources of the tests, and about what they are asked.
pub mod Cursors
pub mod HeapCursors
pub mod OneByte
pub mod OneRange
