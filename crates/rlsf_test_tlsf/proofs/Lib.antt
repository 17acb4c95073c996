-- Lemmas for the tests: pools of one chunk, and what is appended to them; and bytes that are kept.
pub mod FirstChunk
pub mod KeptBytes
pub mod OneChunk
pub mod Rows
