-- The definitions of private functions, and of `step` and `Tables`, which are public only for the crates above.
pub mod Pools
pub mod Tables
pub mod Changes
