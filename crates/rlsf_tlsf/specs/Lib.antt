-- Definitions for the allocator over pools. Read `Allocator` first, then `Results`.
pub mod Allocator
pub mod Bounds
pub mod InPlace
pub mod Lending
pub mod CoreResizes
pub mod Moving
pub mod Cores
pub mod Results
pub mod Sizing
pub mod Steps
pub mod UnknownAlign
