-- The definitions of the examples, one file each.
pub mod Cache
pub mod Note
pub mod Rationed
pub mod Stored
