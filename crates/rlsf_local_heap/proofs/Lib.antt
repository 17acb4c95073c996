-- Lemmas on leases, slots, results that may be absent, and blocks that get another size. `SmallerUnits` and `SlotContents` are for the manual proofs.
pub mod Outcomes
pub mod Resizing
pub mod SlotContents
pub mod SmallerUnits
