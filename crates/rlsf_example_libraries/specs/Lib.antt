-- The definitions of this crate's contracts, a file for each library; `Stored`, `Handled`, `Budgets` and `Tiles` are what they share.
pub mod Budgets
pub mod Capacities
pub mod Handled
pub mod Objects
pub mod Owned
pub mod Picture
pub mod Queue
pub mod Results
pub mod Stored
pub mod Strings
pub mod Tiles
