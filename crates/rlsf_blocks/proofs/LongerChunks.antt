-- A range is inserted behind a chunk.
pub mod Appended
pub mod Extensions
pub mod Lengthened
