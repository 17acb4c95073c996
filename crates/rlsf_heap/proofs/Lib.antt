-- Lemmas of the heap's calls, and what the manual proofs cite.
pub mod Found
pub mod Kept
pub mod LiveCounts
pub mod OnCores
pub mod RangePools
pub mod Released
mod TakenBack
pub mod ThinValues
pub mod Tickets
