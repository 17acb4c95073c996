-- Words in a memory: what a written one leaves as it was.
pub mod Apart
pub mod Frames
pub mod NonZeroNumbers
pub mod Refilled
pub mod NeverOut
pub mod Stays
