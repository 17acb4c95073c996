-- Definitions for integers as bitmaps. Read `Bits` first.
pub mod Bits
pub mod Ceilings
pub mod Laws
pub mod Values
