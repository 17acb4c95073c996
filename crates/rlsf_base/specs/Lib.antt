-- Definitions for memories, ranges and layouts. Read `Range` and `Space` first.
pub mod Addr
pub mod Changes
pub mod ClassLaws
pub mod Layout
pub mod Ledger
pub mod Lends
pub mod LendsPiece
pub mod MemoryCalls
pub mod OpenSpace
pub mod Out
pub mod Piece
pub mod Range
pub mod RawParts
pub mod SearchStart
pub mod Space
pub mod Steps
pub mod UnitPayload
