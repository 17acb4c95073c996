-- Bytes that are lent or copied: what is left there, and what stays.
pub mod BytesBeside
pub mod Copied
pub mod Lent
pub mod Memories
pub mod Placed
pub mod Present
pub mod Refilled
pub mod Replaced
pub mod Whole
pub mod WordIsHere
