-- Definitions that the functions of a memory share. Public contracts cite those of `Ownership`.
pub mod Block
pub mod Fronts
pub mod LentParts
pub mod Owners
pub mod Ownership
pub mod UnitParts
