-- Lemmas on the allocator over a source, as growth, footers, the end, trims and lent bytes, and on sources.
pub mod Allocations
pub mod Asks
pub mod BumpRanges
pub mod Calls
pub mod DisjointRanges
pub mod EmptyFlex
pub mod Ends
mod FilledAllocations
pub mod FooterWords
pub mod Frames
pub mod Growths
pub mod Heaps
pub mod InnerAllocator
pub mod Kept
pub mod KeptPayloads
pub mod Moves
pub mod NewRanges
pub mod NewestRange
pub mod Outcomes
pub mod Outside
pub mod OutsideNow
pub mod Places
pub mod RangeLengths
pub mod RangeRows
pub mod Reallocations
pub mod Refused
pub mod Reserves
pub mod Rewritten
mod SendAndSync
pub mod SpareBytes
pub mod TrimmedRanges
pub mod Unlent
