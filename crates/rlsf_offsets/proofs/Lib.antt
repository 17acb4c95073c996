-- Lemmas on ranges of units, and on ranges of bytes.
mod Ranges
mod Allocations
mod Frees
mod Resizes
mod Rooms
mod Kept
mod Growths
mod Bytes
mod Blocks
mod Live
