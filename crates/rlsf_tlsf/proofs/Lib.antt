-- Lemmas on the allocator over pools: its steps, and lent bytes.
pub mod Arrivals
pub mod FilledAllocations
pub mod IdleRows
pub mod Lent
pub mod LiveBytes
pub mod Moved
pub mod NewSize
mod Opened
pub mod Placed
pub mod Reached
pub mod Relocated
pub mod Removed
pub mod Replied
pub mod ResizedInPlace
mod SendAndSync
pub mod Standing
pub mod UnknownAlign
mod Whole
