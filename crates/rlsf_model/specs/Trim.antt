-- Trim: the newest ranges, as far as they hold no used block, are returned to the source.
use Rattle.std.specs.Prelude.{◌≡◌, ◌⊎◌, ℕ, ◌+◌, ◌≤◌, true, false, List, [], ◌∷◌, ◌++◌, length, map, Option, Some, None}
use Rattle.rlsf_base.specs.declared.memory.range.Range.{Range}
use Rattle.rlsf_base.specs.Range.{end_of}
use Rattle.rlsf_model.specs.FlexState.{FlexState, KeptPool}
use Rattle.rlsf_model.specs.Lists.{IsIn}
use Rattle.rlsf_model.specs.Note.{Note, dealloc}
use Rattle.rlsf_model.specs.Remove.{IsIdle, removed}
use Rattle.rlsf_model.specs.State.{State}
use Rattle.rlsf_model.specs.Terms.{Terms}

-- the newest of some ranges holds a used block, if there is a range
abbrev pub IsNewestHeld : State → List Range → Type 0
IsNewestHeld s [] = Unit {0}
IsNewestHeld s (r ∷ ranges) = IsIdle s r → ⊥

-- the state without the chunks and the free ranges that lie in some ranges
abbrev pub all_removed : List Range → State → State
all_removed [] s = s
all_removed (r ∷ ranges) s = all_removed ranges (removed r s)

-- so many bytes from its start on, a range's last chunk ends
pub record EndsLast (chunks : List Range) (r : Range) (len : ℕ) : Type 0 where
  pub last : (c : Range) × IsIn c chunks × (r.start ≤ c.start) × (end_of c ≤ end_of r) × (end_of c ≡ r.start + len)
  pub none_later : (c : Range) → IsIn c chunks → r.start ≤ c.start → end_of c ≤ end_of r → end_of c ≤ r.start + len

-- the newest range is kept up to the end of its last chunk, and none is where there is no range
abbrev pub IsKeptToLast : List Range → List Range → Option KeptPool → Type 0
IsKeptToLast chunks [] kept = kept ≡ None
IsKeptToLast chunks (r ∷ ranges) kept = (len : ℕ) × EndsLast chunks r len × (kept ≡ Some (record { range = r; len = len }))

-- The newest ranges that hold no used block are returned, each once and the newest first, with their chunks and free ranges. The newest
-- of those that are left holds one, and is the kept one.
pub record GivesBack (s : FlexState) (count : ℕ) (notes : List Note) (u : FlexState) : Type 0 where
  pub gone : List Range
  pub left : List Range
  pub split : s.pools ≡ gone ++ left
  pub idle : (r : Range) → IsIn r gone → IsIdle s.machine r
  pub held : IsNewestHeld s.machine left
  pub counted : count ≡ length gone
  pub noted : notes ≡ map dealloc gone
  pub machine : u.machine ≡ all_removed gone s.machine
  pub pools : u.pools ≡ left
  pub kept : IsKeptToLast u.machine.chunks left u.kept

-- so many ranges are returned if the source takes ranges back; else none is, and the state is as it was
abbrev pub Trims : Terms → FlexState → ℕ → List Note → FlexState → Type 0
Trims t s count notes u = ((t.dealloc ≡ true) × GivesBack s count notes u) ⊎ ((t.dealloc ≡ false) × (count ≡ 0) × (notes ≡ []) × (u ≡ s))
