-- Lemmas on the checked allocator: its invariant, its pools, refused sizes and its parameters.
pub mod FieldsOverSteps
mod Gathered
mod InRange
mod Joined
mod ListedPools
mod PoolsOverSteps
mod RemovedPools
mod SizeRefusals
mod Unchanged
mod Validity
