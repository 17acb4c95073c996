-- Memories of a block that the caller owns.
use Rattle.std.specs.Prelude.{◌≡◌, ℕ, ◌+◌, ◌%◌, ◌^◌, ◌<◌, ◌≤◌, length}
use Rattle.rlsf_base.specs.declared.memory.block.RawParts.{RawParts}
use Rattle.rlsf_base.specs.declared.memory.range.Range.{Range}
use Rattle.rlsf_base.specs.Changes.{IsOwn}
use Rattle.rlsf_base.specs.OpenSpace.{home_of}
use Rattle.rlsf_base.specs.Piece.{CanCome, Piece, piece_range}
use Rattle.rlsf_base.specs.Range.{LiesIn}
use Rattle.rlsf_base.specs.Space.{Space}
use Rattle.rlsf_base.specs.Steps.Ownership.{units_from}

-- the addresses that the bytes of the caller's block can have
abbrev pub CanStart : ℕ → ℕ → Type 0
CanStart start len = (start % 8 ≡ 0) × (1 ≤ start) × (start + len < 2 ^ 64) × (len < 2 ^ 59)

-- what a part at addresses of this memory owned can be made a part again
abbrev pub TakesParts : Space → Type 0
TakesParts m = (p : Piece) (r : Range) → p.home ≡ home_of m → piece_range p ≡ r → LiesIn r m.start (length m.bytes) → IsOwn p.out 0 (length p.bytes)
    → CanCome p m.view r

-- the bytes of the parts lie at their block, with its units
abbrev pub LiesAtBlock : RawParts → Type 0
LiesAtBlock p = (p.bytes.at ≡ p.base.ptr) × (p.bytes.skip ≡ 0) × (length p.bytes.bytes ≡ p.len) × (p.bytes.units ≡ units_from p.start (length p.bytes.bytes))
