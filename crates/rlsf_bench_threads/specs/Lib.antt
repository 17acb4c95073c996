-- The definitions of the slots.
pub mod Slots
