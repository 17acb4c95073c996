-- Lemmas of the libraries.
pub mod Capacities
pub mod Entries
pub mod Fronts
pub mod HandledStores
pub mod Kept
pub mod Places
pub mod Queues
pub mod Rooms
pub mod Stores
pub mod Tilings
pub mod UsedBlocks
