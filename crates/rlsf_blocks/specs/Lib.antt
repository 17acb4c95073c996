-- Definitions for the in-band layout of blocks. Read `InBand` and `StandsFor` first.
pub mod Blocks
pub mod Consistency
pub mod InBand
pub mod Laws
pub mod Listing
pub mod Spare
pub mod StandsFor
pub mod Steps
pub mod Totals
