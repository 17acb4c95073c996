-- What a pool sizes the allocator for.
use Rattle.std.specs.Prelude.{◌≡◌, ◌≤◌, ◌%◌, ℕ, Some}
use Rattle.rlsf_base.specs.declared.memory.range.Range.{Range}
use Rattle.rlsf_model_sizes.specs.Sizes.{pool_size_for_budget, pool_size_for_payloads}
use Rattle.rlsf_model.specs.Sized.{IsSizedFor, IsSizedForBudget, live_count}
use Rattle.rlsf_model.specs.State.{State}

-- if nothing was live, a range from a multiple of 32 on that is long enough for a pool of some bounds sizes the allocator for them
abbrev pub SizesPool : ℕ → ℕ → Range → State → State → Type 0
SizesPool fllen sllen r before after =
    (count size align len : ℕ) → pool_size_for_payloads fllen sllen count size align ≡ Some len → r.start % 32 ≡ 0 → len ≤ r.len → live_count before ≡ 0
    → IsSizedFor sllen count size align after

-- a range from a multiple of 32 on that is long enough for a pool of some budget sizes the allocator for it, whatever is live
abbrev pub SizesPoolForBudget : ℕ → ℕ → Range → State → Type 0
SizesPoolForBudget fllen sllen r after =
    (count bytes size align len : ℕ) → pool_size_for_budget fllen sllen count bytes size align ≡ Some len → r.start % 32 ≡ 0 → len ≤ r.len
    → IsSizedForBudget sllen count bytes size align after.chunks
