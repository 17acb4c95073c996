-- Lemmas about the value under the lock: its table, its heap and the steps of its calls.
mod CodedRows
pub mod Deallocations
pub mod Heaps
pub mod Kept
pub mod KeptMemories
pub mod Layouts
pub mod Lives
pub mod MovedPayloads
pub mod Placements
mod Places
pub mod Refusals
pub mod Resizes
pub mod Results
mod RowNumbers
mod RowsBelow
mod ToldLayouts
pub mod Journal
