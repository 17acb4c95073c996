-- What is compared of ranges.
use Rattle.std.specs.Prelude.{ℕ, ◌^◌, ◌≤◌, ◌<◌}
use Rattle.rlsf_base.specs.declared.memory.range.Range.{Range}
use Rattle.rlsf_base.specs.Range.{end_of}

-- the address behind those of a heap over all addresses
abbrev pub past : ℕ
past = 2 ^ 58

-- an address lies in both ranges
abbrev pub Overlap : Range → Range → Type 0
Overlap r q = (a : ℕ) × (r.start ≤ a) × (a < end_of r) × (q.start ≤ a) × (a < end_of q)
