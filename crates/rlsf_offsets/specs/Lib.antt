-- What callers see of an allocator of offsets.
pub mod Units
pub mod Offsets
pub mod Blocks
pub mod Iteration
pub mod Marks
pub mod Checked
