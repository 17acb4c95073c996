-- The bounds and budgets that the allocator is sized for: what holds within them, and which of them it stays sized for.
use Rattle.std.specs.Prelude.{◌≡◌, ◌≤◌, ◌+◌, ℕ, Some, length}
use Rattle.rlsf_model_sizes.specs.Sizes.{request_size}
use Rattle.rlsf_model.specs.Callers.{align_at, bytes_at}
use Rattle.rlsf_model.specs.Sized.{IsSizedFor, IsSizedForBudget, live_bytes, live_count}
use Rattle.rlsf_model.specs.State.{State}

-- what holds within all bounds that the allocator is sized for, if they include this size and alignment, and no more payloads are live than
-- they allow
abbrev pub IfWithinBounds : ℕ → State → ℕ → ℕ → Type 0 → Type 0
IfWithinBounds sllen s size align holds =
    (count most widest : ℕ) → IsSizedFor sllen count most widest s → live_count s ≤ count → size ≤ most → align ≤ widest → holds

-- what holds within all budgets that the allocator is sized for, if they include this size and alignment, no more payloads are live than
-- they allow, and their blocks have no more bytes together
abbrev pub IfWithinBudget : ℕ → State → ℕ → ℕ → Type 0 → Type 0
IfWithinBudget sllen s size align holds =
    (count bytes most widest : ℕ) → IsSizedForBudget sllen count bytes most widest s.chunks → live_count s ≤ count → live_bytes s ≤ bytes → size ≤ most → align ≤ widest
    → holds

-- the state has room for a payload of this size and alignment: what holds within bounds, and within budgets
pub record HasRoom (sllen : ℕ) (s : State) (size align : ℕ) (holds : Type 0) : Type 0 where
  pub bounds : IfWithinBounds sllen s size align holds
  pub budget : IfWithinBudget sllen s size align holds

-- an allocation of this size and alignment has such room, and takes no more bytes of it than are sought
pub record TakesRoom (sllen : ℕ) (before after : State) (size align : ℕ) (holds : Type 0) : Type 0 where
  -- what holds within bounds
  pub bounds : IfWithinBounds sllen before size align holds
  -- what holds within budgets
  pub budget : IfWithinBudget sllen before size align holds
  -- the blocks of live payloads have at most so many bytes more
  pub bytes : live_bytes after ≤ live_bytes before + request_size size align

-- a reallocation to this size and alignment has such room. If it succeeds, it takes no more bytes of it than are sought, and the bytes are
-- off that the payload at the address was sought with, or more
pub record TakesRoomAgain (sllen : ℕ) (before after : State) (addr size align : ℕ) (holds : Type 0) : Type 0 where
  -- what holds within bounds
  pub bounds : IfWithinBounds sllen before size align holds
  -- what holds within budgets
  pub budget : IfWithinBudget sllen before size align holds
  -- how many bytes the blocks of live payloads have
  pub bytes : holds → live_bytes after + request_size (length (bytes_at before addr)) 16 ≤ live_bytes before + request_size size align

-- the allocator stays sized for all budgets
abbrev pub KeepsBudgets : ℕ → State → State → Type 0
KeepsBudgets sllen before after =
    (count bytes most widest : ℕ) → IsSizedForBudget sllen count bytes most widest before.chunks → IsSizedForBudget sllen count bytes most widest after.chunks

-- the allocator stays sized for all bounds that include this size and alignment
abbrev pub KeepsBounds : ℕ → State → State → ℕ → ℕ → Type 0
KeepsBounds sllen before after size align =
    (count most widest : ℕ) → IsSizedFor sllen count most widest before → size ≤ most → align ≤ widest → IsSizedFor sllen count most widest after

-- the allocator stays sized for all bounds that include this size, this alignment, and the alignment of the payload that was at the address
abbrev pub KeepsBoundsAnyAlign : ℕ → State → ℕ → ℕ → ℕ → State → Type 0
KeepsBoundsAnyAlign sllen before addr size align after =
    (count most widest was : ℕ) → IsSizedFor sllen count most widest before → align_at before addr ≡ Some was → was ≤ widest → size ≤ most → align ≤ widest
    → IsSizedFor sllen count most widest after

-- the allocator stays sized for all bounds
abbrev pub KeepsAllBounds : ℕ → State → State → Type 0
KeepsAllBounds sllen before after = (count most widest : ℕ) → IsSizedFor sllen count most widest before → IsSizedFor sllen count most widest after
