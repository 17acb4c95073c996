-- The definitions of the tests' contracts.
pub mod Slots
