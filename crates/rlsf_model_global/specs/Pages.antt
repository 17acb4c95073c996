-- The page source: where its cursor is, and what may be outstanding.
use Rattle.std.specs.Prelude.{◌≡◌, ℕ, ◌%◌, ◌^◌, ◌≤◌, ◌<◌, ◌⊎◌, List}
use Rattle.rlsf_base.specs.declared.memory.range.Range.{Range}
use Rattle.rlsf_base.specs.Range.{end_of}
use Rattle.rlsf_model.specs.Lists.{IsIn}
use Rattle.rlsf_model.specs.WellFormed.{coverage, itself}
use Rattle.rlsf_model_global.specs.Cursor.{PageCursor}

-- the cursor is in the space, at its end or at a multiple of 32, and addresses fit in a word
pub record IsPageCursor (c : PageCursor) : Type 0 where
  pub after_start : c.space.start ≤ c.at
  pub before_end : c.at ≤ end_of c.space
  pub aligned : (c.at ≡ end_of c.space) ⊎ (c.at % 32 ≡ 0)
  pub addressable : end_of c.space < 2 ^ 64

-- the cursor is such, and the ranges lie in the space before it, begin at multiples of 32, and don't overlap
pub record MayOwe (c : PageCursor) (owed : List Range) : Type 0 where
  pub cursor : IsPageCursor c
  pub start : (r : Range) → IsIn r owed → c.space.start ≤ r.start
  pub end : (r : Range) → IsIn r owed → end_of r ≤ c.at
  pub aligned : (r : Range) → IsIn r owed → r.start % 32 ≡ 0
  pub disjoint : (a : ℕ) → coverage itself owed a ≤ 1
