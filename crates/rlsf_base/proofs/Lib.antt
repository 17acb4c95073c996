-- Lemmas on memories and size classes. `RawBlock` is for the manual proofs of `src/memory/block.rt`.
pub mod Changes
pub mod Layouts
pub mod Lending
pub mod Numbers
pub mod Pieces
pub mod RawBlock
pub mod SizeClasses
pub mod SizeMaps
pub mod Words
mod Worked
