-- The pool that an allocation wants, and what there is of it once it came.
use Rattle.std.specs.Prelude.{◌≡◌, ◌⊎◌, ℕ, ◌+◌, ◌%◌, ◌≤◌, Some}
use Rattle.rlsf_base.specs.declared.memory.range.Range.{Range}
use Rattle.rlsf_model_sizes.specs.Sizes.{pool_size_to_contain_allocation}
use Rattle.rlsf_model.specs.Lists.{IsIn}
use Rattle.rlsf_model.specs.State.{State}

-- e is the length of the pool that some allocation wants
pub record IsPoolSize (fllen sllen e : ℕ) : Type 0 where
  pub size : ℕ
  pub align : ℕ
  pub is : pool_size_to_contain_allocation fllen sllen size align ≡ Some e

-- an aligned part of e bytes is sure to lie in the range
abbrev pub HasAlignedPart : Range → ℕ → Type 0
HasAlignedPart r e = (e + 32 ≤ r.len) ⊎ ((r.start % 32 ≡ 0) × (e ≤ r.len))

-- a free range is as long as that of a chunk of e bytes
pub record HasFreePool (e : ℕ) (t : State) : Type 0 where
  pub range : Range
  pub is_free : IsIn range t.free
  pub long : e ≤ range.len + 32
