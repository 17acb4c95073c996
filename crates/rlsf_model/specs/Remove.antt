-- Memory is removed from the reference model: the chunks in a range, and with them their free ranges.
use Rattle.std.specs.Prelude.{◌≡◌, ◌⊎◌, ℕ, ◌+◌, ◌≤◌, ◌<◌, Bool, ◌&&◌, List, filter, nat_le, not}
use Rattle.rlsf_base.specs.declared.memory.range.Range.{Range}
use Rattle.rlsf_base.specs.Range.{end_of}
use Rattle.rlsf_model.specs.Lists.{IsIn}
use Rattle.rlsf_model.specs.State.{State}
use Rattle.rlsf_model.specs.WellFormed.{covers, coverage}

-- whether c lies in the range r
abbrev pub lies_within : Range → Range → Bool
lies_within r c = nat_le r.start c.start && nat_le (end_of c) (end_of r)

-- the ranges of a list that don't lie in the range r, in their order
abbrev pub outside_of : Range → List Range → List Range
outside_of r ranges = filter (λ c. not (lies_within r c)) ranges

-- no used block has a byte of the range
abbrev pub IsIdle : State → Range → Type 0
IsIdle s r = (a : ℕ) → r.start ≤ a → a < end_of r → coverage (λ u. u.block) s.used a ≡ 0

-- c lies in the range r, or has no byte of it
abbrev pub IsWithinOrOff : Range → Range → Type 0
IsWithinOrOff r c = ((r.start ≤ c.start) × (end_of c ≤ end_of r)) ⊎ ((a : ℕ) → covers r a + covers c a ≤ 1)

-- the range may be removed: no used block has a byte of it, and each chunk lies in it or outside of it
pub record IsRemovable (s : State) (r : Range) : Type 0 where
  pub idle : IsIdle s r
  pub whole : (c : Range) → IsIn c s.chunks → IsWithinOrOff r c

-- the state without the chunks and the free ranges that lie in r; those that are left keep their order
abbrev pub removed : Range → State → State
removed r s = record { chunks = outside_of r s.chunks; used = s.used; free = outside_of r s.free }

-- the range is removed
abbrev pub Removes : State → Range → State → Type 0
Removes s r t = t ≡ removed r s
