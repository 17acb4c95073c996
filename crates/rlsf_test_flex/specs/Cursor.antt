-- A source that provides its space from a cursor on.
use Rattle.std.specs.Prelude.{◌≡◌, ℕ, ◌^◌, ◌≤◌, ◌<◌, List}
use Rattle.rlsf_base.specs.declared.memory.range.Range.{Range}
use Rattle.rlsf_model_sizes.specs.PowerOfTwo.{IsPowerOfTwo}
use Rattle.rlsf_base.specs.Range.{end_of}
use Rattle.rlsf_model.specs.Lists.{IsIn}
use Rattle.rlsf_model.specs.Note.{Note}
use Rattle.rlsf_model.specs.Terms.{Terms}
use Rattle.rlsf_model.specs.WellFormed.{coverage, itself}

-- what the source keeps to, and the address that no outstanding range goes past
pub record Cursor : Type 0 where
  pub terms : Terms
  pub at : ℕ

-- the cursor lies in the space, whose addresses fit in a word
pub record IsCursor (c : Cursor) : Type 0 where
  pub after_start : c.terms.space.start ≤ c.at
  pub before_end : c.at ≤ end_of c.terms.space
  pub addressable : end_of c.terms.space < 2 ^ 64
  pub power : IsPowerOfTwo c.terms.min_align

-- the ranges lie in the space before the cursor, and don't overlap
pub record CursorMayOwe (c : Cursor) (owed : List Range) : Type 0 where
  pub start : (r : Range) → IsIn r owed → c.terms.space.start ≤ r.start
  pub end : (r : Range) → IsIn r owed → end_of r ≤ c.at
  pub disjoint : (a : ℕ) → coverage itself owed a ≤ 1

-- no question changes what the source keeps to
abbrev pub KeepsTerms : Cursor → Note → Cursor → Type 0
KeepsTerms x n y = y.terms ≡ x.terms
