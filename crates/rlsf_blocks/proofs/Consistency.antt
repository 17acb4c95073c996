-- Lemmas on the words of blocks, their links and the class table.
pub mod Classes
pub mod Lists
pub mod Passing
pub mod Pieces
pub mod Reading
pub mod Represented
pub mod Tests
pub mod Walked
