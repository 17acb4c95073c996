-- The lists of free blocks in a memory: what their links say, a block put in front of one, and a block taken out.
pub mod Chains
pub mod Classes
pub mod Counted
pub mod Found
pub mod Front
pub mod Indices
pub mod OtherClasses
pub mod Read
pub mod Removal
pub mod Touches
