-- Definitions for the library of heaps that are used in place. Read `Handle` first, and `Calls` of `rlsf_malloc_calls`.
pub mod Handle
pub mod Ranges
pub mod Words
