-- The reference model: what an allocator does to lists of ranges. Every promise of this crate is about it.
-- It knows the chunks of memory that were inserted, the used blocks, and one list of the free ranges, the newest
-- first. All arithmetic is that of whole numbers without bound.
pub mod Allocate
pub mod Answers
pub mod Budget
pub mod Callers
pub mod ChunkRows
pub mod End
pub mod FlexAllocate
pub mod FlexReallocate
pub mod FlexRun
pub mod FlexState
pub mod FlexWellFormed
pub mod Growth
pub mod Insert
pub mod Join
pub mod Laws
pub mod Lists
pub mod LiveAddresses
pub mod NoMove
pub mod Note
pub mod Owed
pub mod Payload
pub mod PoolLength
pub mod Reallocate
pub mod Release
pub mod Remove
pub mod Run
pub mod Sized
pub mod Sizing
pub mod State
pub mod Terms
pub mod Uniform
pub mod Trim
pub mod WellFormed
