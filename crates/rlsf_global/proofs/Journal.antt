-- Lemmas about journals: entries, receipts and replays.
pub mod Closings
pub mod Determined
pub mod Equal
pub mod KeptMemories
pub mod ReceiptsOf
pub mod Replays
pub mod Replies
