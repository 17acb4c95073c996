-- The definitions of this crate's contracts. Read `Partitions` first.
pub mod Budgets
pub mod Partitions
pub mod Tiled
