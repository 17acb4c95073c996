-- Numbers: powers of two, and rounding up.
pub mod Masked
pub mod PowersOfTwo
pub mod Roundings
