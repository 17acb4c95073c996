-- How much room callers are sure to have. The definitions don't unfold by themselves.
use Rattle.std.specs.Prelude.{ℕ, List, ◌==◌, filter, length}
use Rattle.rlsf_base.specs.declared.memory.range.Range.{Range}
use Rattle.rlsf_model_sizes.specs.Sizes.{request_size}
use Rattle.rlsf_model.specs.Budget.{AreAtMost, AreFronts, HasBudget, HasRoomForBudget, used_bytes}
use Rattle.rlsf_model.specs.State.{State}

-- how many payloads are live
unfoldable pub live_count : State → ℕ
live_count s = length s.used

-- no used block is longer than what is sought for this size and alignment, and the chunks have the budget for payloads within these
-- bounds: so while `count` or fewer are live one more is never refused, wherever they lie
unfoldable pub IsSizedFor : ℕ → ℕ → ℕ → ℕ → State → Type 0
IsSizedFor sllen count size align s =
    (fronts : List Range) × AreFronts s.chunks fronts × HasBudget count (request_size size align) sllen fronts × AreAtMost (request_size size align) s.used

-- how many bytes the blocks of the live payloads have together
unfoldable pub live_bytes : State → ℕ
live_bytes s = used_bytes s.used

-- how many bytes the block of the payload at an address has; 0 where no payload is live
unfoldable pub block_bytes : State → ℕ → ℕ
block_bytes s addr = used_bytes (filter (λ u. u.payload == addr) s.used)

-- the chunks have room for `count` payloads whose blocks have `bytes` bytes together, and for one more up to this size and alignment:
-- so while the live payloads keep to both numbers such a payload is never refused, wherever they lie
unfoldable pub IsSizedForBudget : ℕ → ℕ → ℕ → ℕ → ℕ → List Range → Type 0
IsSizedForBudget sllen count bytes size align chunks =
    (fronts : List Range) × AreFronts chunks fronts × HasRoomForBudget count bytes (request_size size align) sllen fronts
