-- What the exports of a shape share, for each type of heaps.
pub mod Begins
pub mod Checks
pub mod Ends
pub mod Gives
pub mod Lends2
pub mod Lists
pub mod Signatures
pub mod Takes
pub mod Trades
