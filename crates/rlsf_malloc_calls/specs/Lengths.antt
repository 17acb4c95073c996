-- Lengths of pools.
use Rattle.std.specs.Prelude.{◌≡◌, ℕ, Option, Some, None}
use Rattle.rlsf_base.specs.Layout.{IsLayout}
use Rattle.rlsf_model_sizes.specs.Sizes.{pool_size_for_budget, pool_size_to_contain_allocation}

-- a length, or 0 where there is none
abbrev pub or_zero : Option ℕ → ℕ
or_zero None = 0
or_zero (Some len) = len

-- the least length of a pool in which a first payload is never refused; 0 where there is none, or no such layout
pub record IsPoolSizeOf (fllen sllen size align answer : ℕ) : Type 0 where
  pub len : IsLayout size align → answer ≡ or_zero (pool_size_to_contain_allocation fllen sllen size align)
  pub no_layout : (IsLayout size align → ⊥) → answer ≡ 0

-- the length of a pool that refuses no payload up to a layout while `count` or fewer are live, whose blocks have `bytes` bytes or fewer
-- together; 0 where there is none, or no such layout
pub record IsPoolSizeForBudget (fllen sllen count bytes size align answer : ℕ) : Type 0 where
  pub len : IsLayout size align → answer ≡ or_zero (pool_size_for_budget fllen sllen count bytes size align)
  pub no_layout : (IsLayout size align → ⊥) → answer ≡ 0
