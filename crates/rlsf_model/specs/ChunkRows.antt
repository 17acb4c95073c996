-- Contiguous chunks.
use Rattle.std.specs.Prelude.{ℕ, ◌<◌, ◌≤◌}
use Rattle.rlsf_base.specs.declared.memory.range.Range.{Range}
use Rattle.rlsf_base.specs.Range.{end_of}
use Rattle.rlsf_model.specs.Lists.{IsIn}
use Rattle.rlsf_model.specs.State.{State}

-- a range is complete contiguous chunks, or empty: each of its addresses is in a chunk that lies in it
abbrev pub IsRow : State → Range → Type 0
IsRow s r = (a : ℕ) → r.start ≤ a → a < end_of r
    → (c : Range) × IsIn c s.chunks × (r.start ≤ c.start) × (c.start ≤ a) × (a < end_of c) × (end_of c ≤ end_of r)
