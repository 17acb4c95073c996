-- The footers: two words near the end of each range of the source, which name the range before it.
use Rattle.std.specs.Prelude.{◌≡◌, ℕ, ◌+◌, ◌-◌, ◌*◌, ◌/◌, ◌^◌, ◌<◌, ◌≤◌, List, [], ◌∷◌, Option, Some, None, length}
use Rattle.rlsf_base.specs.declared.memory.range.Range.{Range}
use Rattle.rlsf_base.specs.Range.{end_of}
use Rattle.rlsf_base.specs.Space.{Space, byte_at, range_of, word_at, SamePlace}
use Rattle.rlsf_model.specs.FlexWellFormed.{AreOutstanding}

-- where a range's footer is: the last multiple of 8 that leaves 16 bytes of the range
abbrev pub footer_of : Range → ℕ
footer_of p = (end_of p - 16) / 8 * 8

-- where the first of some ranges begins, or 0 where there is none
abbrev pub first_start : List Range → ℕ
first_start [] = 0
first_start (p ∷ ps) = p.start

-- how long it is, or 0
abbrev pub first_len : List Range → ℕ
first_len [] = 0
first_len (p ∷ ps) = p.len

-- the footers spell the ranges, the newest first: each names the one that was there before it
abbrev pub Footers : Space → List Range → Type 0
Footers m [] = Unit {0}
Footers m (p ∷ ps) = (word_at m (footer_of p) ≡ first_start ps) × (word_at m (footer_of p + 8) ≡ first_len ps) × Footers m ps

-- a range's footer is written, and no other byte
pub record WritesFooter (m n : Space) (p : Range) (start len : ℕ) : Type 0 where
  pub place : SamePlace m n
  pub reads_start : word_at n (footer_of p) ≡ start
  pub reads_len : word_at n (footer_of p + 8) ≡ len
  pub bytes : (a : ℕ) → m.start ≤ a → a < m.start + length m.bytes → (footer_of p ≤ a → a < footer_of p + 16 → ⊥) → byte_at n a ≡ byte_at m a

-- the newest of the ranges, if there is one
abbrev pub first : List Range → Option Range
first [] = None
first (p ∷ ps) = Some p

-- ranges of a memory, the newest of which is at hand, with footers that spell them
pub record AreSpelled (m : Space) (newest : Option Range) (pools : List Range) : Type 0 where
  pub is_first : newest ≡ first pools
  pub footers : Footers m pools
  pub placed : AreOutstanding (range_of m) pools
  pub nonzero : 0 < m.start
  pub addressable : m.start + length m.bytes < 2 ^ 64
