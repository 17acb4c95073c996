-- Proofs for integers as bitmaps: positions of a number, rounding up, and the signed and unsigned types.
pub mod Bits
pub mod Ceilings
pub mod Signed
pub mod Unsigned
