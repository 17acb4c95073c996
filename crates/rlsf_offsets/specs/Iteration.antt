-- The pieces of a space, one after another: free ranges, and live ranges with the units that their alignments leave in front.
use Rattle.std.specs.Prelude.{◌≡◌, ℕ, ◌-◌, ◌*◌, ◌/◌, ◌^◌, ◌<◌, ◌≤◌, List, map, not}
use Rattle.rlsf_base.specs.Range.{end_of}
use Rattle.rlsf_blocks.specs.Blocks.{Block}
use Rattle.rlsf_model.specs.Lists.{IsIn}
use Rattle.rlsf_offsets.specs.declared.pieces.Piece.{Piece}
use Rattle.rlsf_offsets.specs.Blocks.{AreAllBlocks}
use Rattle.rlsf_offsets.specs.Units.{Offsets}

-- the piece that a block of the shadow is for: 32 bytes for each unit, the first at 2 ^ 62 - 32
abbrev pub piece_of : ℕ → Block → Piece
piece_of unit b = record { offset = (b.range.start - (2 ^ 62 - 32)) / 32 * unit; len = b.range.len / 32 * unit; is_free = not b.is_occupied }

-- those of some blocks
abbrev pub pieces_of : ℕ → List Block → List Piece
pieces_of unit bs = map (piece_of unit) bs

-- the list is that of all used and free ranges, in order
abbrev pub ArePieces : ℕ → Offsets → List Piece → Type 0
ArePieces unit v ps = (bs : List Block) × AreAllBlocks v bs × (ps ≡ pieces_of unit bs)

-- the offset of a block's end fits in a word
abbrev pub IsInSpace : ℕ → Block → Type 0
IsInSpace unit b = (2 ^ 62 - 32 ≤ b.range.start) × ((end_of b.range - (2 ^ 62 - 32)) / 32 * unit < 2 ^ 64)

-- so do those of some blocks
abbrev pub AreInSpace : ℕ → List Block → Type 0
AreInSpace unit bs = (b : Block) → IsIn b bs → IsInSpace unit b
