-- The class table: its bits, its heads, the search of the least class, and the table of blocks that were linked or taken out.
pub mod Bits
pub mod Choice
pub mod Copied
pub mod Empty
pub mod FreeTables
pub mod Heads
pub mod Linking
pub mod RowLengths
pub mod Rows
pub mod Search
pub mod Tests
