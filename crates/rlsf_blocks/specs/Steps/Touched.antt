-- Which words are written while blocks are rewritten.
use Rattle.std.specs.Prelude.{◌≡◌, ℕ, ◌+◌, ◌≤◌, List}
use Rattle.rlsf_base.specs.declared.memory.range.Range.{Range}
use Rattle.rlsf_base.specs.Range.{end_of}
use Rattle.rlsf_table.specs.Rewrites.{IsLink}

-- the address is that of a word which may be written while a hole is: a link of a free block, a word inside the
-- hole, or one other word
pub data Touched (free : List Range) (hole : Range) (other a : ℕ) : Type 0 where
  at_link : IsLink free a → Touched free hole other a
  in_hole : hole.start ≤ a → a + 8 ≤ end_of hole → Touched free hole other a
  at_other : a ≡ other → Touched free hole other a
