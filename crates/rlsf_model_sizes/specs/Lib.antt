-- The numbers of the reference model: powers of two, rounding, size classes, and what is computed of sizes and layouts.
pub mod PowerOfTwo
pub mod Rounding
pub mod SizeClass
pub mod Sizes
