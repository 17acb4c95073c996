-- What the bounds are for that the allocator is sized for: no payload within them is refused.
use Rattle.std.specs.Prelude.{◌≡◌, ◌≤◌, ◌+◌, ◌%◌, ℕ, Result, None, Some, IfSome, IsOk, OnOk, length}
use Rattle.rlsf_base.specs.declared.memory.range.Range.{Range}
use Rattle.rlsf_model_sizes.specs.Sizes.{pool_size_for_budget, pool_size_for_payloads, request_size}
use Rattle.rlsf_model.specs.Callers.{align_at, bytes_at}
use Rattle.rlsf_model.specs.Sized.{IsSizedFor, IsSizedForBudget, live_bytes, live_count}
use Rattle.rlsf_model.specs.State.{State}
use Rattle.rlsf_tlsf.specs.Bounds.{KeepsBudgets}
use Rattle.rlsf_checked.specs.Answers.{refusal_at}
use Rattle.rlsf_checked.specs.declared.error.CheckedError.{CheckedError}

-- If nothing was live and the call succeeds, a range from a multiple of 32 on that is long enough for a pool of some bounds sizes the
-- allocator for them.
abbrev pub SizesCheckedPool : ℕ → ℕ → Range → State → State → Result ℕ CheckedError → Type 0
SizesCheckedPool fllen sllen r before after result =
    (count size align len : ℕ) → pool_size_for_payloads fllen sllen count size align ≡ Some len → r.start % 32 ≡ 0 → len ≤ r.len → live_count before ≡ 0
    → OnOk result (IsSizedFor sllen count size align after)

-- If the call succeeds, such a range sizes the allocator for some budget, whatever was live.
abbrev pub SizesCheckedPoolForBudget : ℕ → ℕ → Range → State → Result ℕ CheckedError → Type 0
SizesCheckedPoolForBudget fllen sllen r after result =
    (count bytes size align len : ℕ) → pool_size_for_budget fllen sllen count bytes size align ≡ Some len → r.start % 32 ≡ 0 → len ≤ r.len
    → OnOk result (IsSizedForBudget sllen count bytes size align after.chunks)

-- What the allocator is sized for after a range was inserted, or was refused.
pub record AddsCheckedRoom (fllen sllen : ℕ) (r : Range) (before after : State) (result : Result ℕ CheckedError) : Type 0 where
  -- if nothing was live, all bounds that the range is long enough for
  pub pool : SizesCheckedPool fllen sllen r before after result
  -- all budgets that it is long enough for
  pub budget : SizesCheckedPoolForBudget fllen sllen r after result
  -- and all budgets that it was sized for before
  pub budgets : KeepsBudgets sllen before after
  -- the blocks of live payloads have as many bytes
  pub blocks : live_bytes after ≡ live_bytes before

-- The allocator stays sized for all budgets, and the blocks of live payloads have as many bytes.
pub record KeepsCheckedRoom (sllen : ℕ) (before after : State) : Type 0 where
  -- it stays sized for them
  pub budgets : KeepsBudgets sllen before after
  -- the blocks have as many bytes
  pub blocks : live_bytes after ≡ live_bytes before

-- A live payload gets another size, if neither the size nor its alignment exceeds bounds that the allocator is sized for, no more payloads
-- are live than these allow, and a layout has that size.
abbrev pub SucceedsWithinBounds : {A : Type 0} → ℕ → State → ℕ → ℕ → Result A CheckedError → Type 0
SucceedsWithinBounds sllen before addr size result =
    (count most align : ℕ) → IsSizedFor sllen count most align before → live_count before ≤ count → size ≤ most → IfSome (align_at before addr) (λ a. a ≤ align)
    → refusal_at before addr size ≡ None → IsOk result

-- A live payload gets another size, if neither the size nor its alignment exceeds those of a budget that the allocator is sized for, no more
-- payloads are live than this allows, their blocks have no more bytes, and a layout has that size.
abbrev pub SucceedsWithinBudget : {A : Type 0} → ℕ → State → ℕ → ℕ → Result A CheckedError → Type 0
SucceedsWithinBudget sllen before addr size result =
    (count bytes most align : ℕ) → IsSizedForBudget sllen count bytes most align before.chunks → live_count before ≤ count → live_bytes before ≤ bytes → size ≤ most
    → IfSome (align_at before addr) (λ a. a ≤ align) → refusal_at before addr size ≡ None → IsOk result

-- such a reallocation, within bounds and within budgets
pub record TakesCheckedRoomAgain {A : Type 0} (sllen : ℕ) (before after : State) (addr size : ℕ) (result : Result A CheckedError) : Type 0 where
  -- it succeeds within bounds
  pub bounds : SucceedsWithinBounds sllen before addr size result
  -- and within budgets
  pub budget : SucceedsWithinBudget sllen before addr size result
  -- the blocks of live payloads have at most the bytes more that are sought, and fewer by those that the old ones were sought with, or more
  pub bytes : (align : ℕ) → align_at before addr ≡ Some align
      → OnOk result (live_bytes after + request_size (length (bytes_at before addr)) 16 ≤ live_bytes before + request_size size align)

-- afterwards the allocator is still sized for these bounds
abbrev pub KeepsBoundsSameAlign : ℕ → State → ℕ → ℕ → State → Type 0
KeepsBoundsSameAlign sllen before addr size after =
    (count most align : ℕ) → IsSizedFor sllen count most align before → size ≤ most → IfSome (align_at before addr) (λ a. a ≤ align) → IsSizedFor sllen count most align after
