-- Words in a memory: what written ones leave as it was.
pub mod Writes
pub mod Writing
