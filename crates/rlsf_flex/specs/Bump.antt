-- A source that provides its space from a cursor on.
use Rattle.std.specs.Int.{next_multiple_of}
use Rattle.std.specs.Prelude.{◌≡◌, ◌≢◌, ℕ, ◌+◌, ◌^◌, ◌≤◌, ◌<◌, ◌⊎◌, true, false, Some, None, List}
use Rattle.rlsf_base.specs.declared.memory.range.Range.{Range}
use Rattle.rlsf_base.specs.Range.{end_of, range_at}
use Rattle.rlsf_model_sizes.specs.PowerOfTwo.{IsPowerOfTwo}
use Rattle.rlsf_model_sizes.specs.Rounding.{round32}
use Rattle.rlsf_model.specs.Lists.{IsIn}
use Rattle.rlsf_model.specs.Note.{Note, alloc, dealloc, grow}
use Rattle.rlsf_model.specs.Terms.{Terms}
use Rattle.rlsf_model.specs.WellFormed.{coverage, itself}

-- the space, and the address that no outstanding range goes past
pub record Bump : Type 0 where
  pub space : Range
  pub at : ℕ

-- the same by its parts
abbrev pub bump_in : Range → ℕ → Bump
bump_in space at = record { space = space; at = at }

-- the cursor is in the space, whose addresses fit in a word
pub record IsBump (b : Bump) : Type 0 where
  pub after_start : b.space.start ≤ b.at
  pub before_end : b.at ≤ end_of b.space
  pub addressable : end_of b.space < 2 ^ 64

-- the ranges lie in the space before the cursor, and don't overlap
pub record BumpOwes (b : Bump) (owed : List Range) : Type 0 where
  pub start : (r : Range) → IsIn r owed → b.space.start ≤ r.start
  pub end : (r : Range) → IsIn r owed → end_of r ≤ b.at
  pub disjoint : (a : ℕ) → coverage itself owed a ≤ 1

-- A range that such a source provides to a request: `bump_gives` proves from this that the range keeps the source's contract.
pub record Provides : Type 0 where
  -- what the source can do, and its value before
  pub terms : Terms
  pub before : Bump
  -- the same value by the source's fields
  pub space : Range
  pub at : ℕ
  pub fields : bump_in space at ≡ before
  pub invariant : IsBump (bump_in space at)
  pub in_space : terms.space ≡ before.space
  pub power : IsPowerOfTwo terms.min_align
  -- the request, and the range: it begins at the first multiple of the least alignment, is long enough, and ends in the space
  pub min_size : ℕ
  pub start : ℕ
  pub len : ℕ
  pub end : ℕ
  pub rounded : start ≡ next_multiple_of at terms.min_align
  pub long : min_size ≤ len
  pub ends : end ≡ start + len
  pub fits : end ≤ end_of before.space

-- ---- the source of this crate

-- its ranges are one that grows and begins at a multiple of 32, and nothing is taken back
abbrev pub bump_terms : Bump → Terms
bump_terms b = record { space = b.space; dealloc = false; grow = true; contiguous = true; min_align = 32 }

-- the bytes that are asked for are provided from the first multiple of 32 behind the cursor on, which moves to their end; the range
-- that ends at the cursor grows in the same way; what doesn't fit is refused, and then nothing changes
abbrev pub BumpLeads : Bump → Note → Bump → Type 0
BumpLeads x (alloc size None) y = (end_of x.space < round32 x.at + size) × (y ≡ x)
BumpLeads x (alloc size (Some r)) y = (end_of r ≤ end_of x.space) × (r ≡ range_at (round32 x.at) size) × (y ≡ bump_in x.space (end_of r))
BumpLeads x (grow r len None) y = ((end_of r ≢ x.at) ⊎ (end_of x.space < r.start + len)) × (y ≡ x)
BumpLeads x (grow r len (Some given)) y = (end_of r ≡ x.at) × (r.start + len ≤ end_of x.space) × (given ≡ len) × (y ≡ bump_in x.space (r.start + len))
BumpLeads x (dealloc r) y = y ≡ x
