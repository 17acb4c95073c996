-- A heap over one chunk, for the tests' contracts.
pub mod OneChunk
