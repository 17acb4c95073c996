-- What the functions of sizes compute.
pub mod ChunkLengths
pub mod Doubled
pub mod Laws
pub mod Masks
pub mod PoolSizes
pub mod Quotients
pub mod Reaching
pub mod RowLengths
pub mod SearchStarts
pub mod Shifts
pub mod Starts
pub mod Unmapped
