-- Ranges of addresses.
use Rattle.std.specs.Prelude.{ℕ, ◌+◌, ◌≤◌, ◌⊎◌}
use Rattle.rlsf_base.specs.declared.memory.range.Range.{Range}

-- the address just past a range
abbrev pub end_of : Range → ℕ
end_of r = r.start + r.len

-- the range of so many bytes from an address on
abbrev pub range_at : ℕ → ℕ → Range
range_at start len = record { start = start; len = len }

-- a range lies in the memory of `len` bytes from `start` on
abbrev pub LiesIn : Range → ℕ → ℕ → Type 0
LiesIn r start len = (start ≤ r.start) × (end_of r ≤ start + len)

-- one of the two ranges ends before the other begins, or where it begins
abbrev pub AreApart : Range → Range → Type 0
AreApart r q = (end_of r ≤ q.start) ⊎ (end_of q ≤ r.start)
