-- Definitions for the allocator over a source, and for sources. Read `StandsFor` and `Footers` first.
pub mod Bump
pub mod BumpConstant
pub mod Footers
pub mod Heap
pub mod HeapConstant
pub mod Laws
pub mod Lending
pub mod Outside
pub mod Results
pub mod SpareBytes
pub mod StandsFor
pub mod Steps
