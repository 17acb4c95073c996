-- Lengths of pools, as numbers.
use Rattle.std.specs.Prelude.{◌≡◌, ◌≢◌, ℕ, Option, Some, None}
use Rattle.rlsf_base.specs.Layout.{IsLayout}
use Rattle.rlsf_model_sizes.specs.Sizes.{pool_size_for_budget, pool_size_for_payloads, pool_size_to_contain_allocation}

-- a length, or 0 where there is none
abbrev pub or_zero : Option ℕ → ℕ
or_zero None = 0
or_zero (Some len) = len

-- a length of a pool of the kind that is computed of the pool's rows and classes, for a layout: 0 where there is no such kind, no such
-- layout, or no such length
pub record IsLengthFor (length : ℕ → ℕ → Option ℕ) (kind size align answer : ℕ) : Type 0 where
  pub small : kind ≡ 1 → IsLayout size align → answer ≡ or_zero (length 12 16)
  pub large : kind ≡ 2 → IsLayout size align → answer ≡ or_zero (length 64 64)
  pub no_layout : (IsLayout size align → ⊥) → answer ≡ 0
  pub no_kind : kind ≢ 1 → kind ≢ 2 → answer ≡ 0

-- the length that never refuses payloads up to a layout, while `count` or fewer are live
abbrev pub IsLengthForPayloads : ℕ → ℕ → ℕ → ℕ → ℕ → Type 0
IsLengthForPayloads kind count size align answer = IsLengthFor (λ fllen sllen. pool_size_for_payloads fllen sllen count size align) kind size align answer

-- the least length in which a layout is allocated while nothing lives there
abbrev pub IsLengthForAllocation : ℕ → ℕ → ℕ → ℕ → Type 0
IsLengthForAllocation kind size align answer = IsLengthFor (λ fllen sllen. pool_size_to_contain_allocation fllen sllen size align) kind size align answer

-- the length that never refuses payloads up to a layout, while `count` or fewer are live, whose blocks have `bytes` bytes or fewer together
abbrev pub IsLengthForBudget : ℕ → ℕ → ℕ → ℕ → ℕ → ℕ → Type 0
IsLengthForBudget kind count bytes size align answer =
    IsLengthFor (λ fllen sllen. pool_size_for_budget fllen sllen count bytes size align) kind size align answer
