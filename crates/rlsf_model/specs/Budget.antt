-- Runs of which no call is refused, since their calls request few bytes and the chunks are long.
use Rattle.std.specs.Prelude.{◌≡◌, ℕ, ◌+◌, ◌*◌, ◌<◌, ◌≤◌, List, [], ◌∷◌, length, sum_by, Some, None, ◌-◌}
use Rattle.rlsf_base.specs.declared.memory.range.Range.{Range}
use Rattle.rlsf_model_sizes.specs.SizeClass.{Reaches, class_of}
use Rattle.rlsf_model_sizes.specs.Sizes.{IsSize, request_size}
use Rattle.rlsf_model.specs.Lists.{IsIn}
use Rattle.rlsf_model.specs.Run.{Event, insert, append, allocate, deallocate, reallocate, fill, remove, trim, Leads, MayCall}
use Rattle.rlsf_model.specs.State.{State, Used, Holds}
use Rattle.rlsf_model.specs.WellFormed.{coverage, itself}

-- the lengths of some ranges together
abbrev pub total_len : List Range → ℕ
total_len ranges = sum_by (λ r. r.len) ranges

-- the lengths of some used blocks together
abbrev pub used_bytes : List Used → ℕ
used_bytes used = sum_by (λ u. u.block.len) used

-- a range that isn't empty is the front of a chunk, or all of it
abbrev pub IsFront : List Range → Range → Type 0
IsFront chunks r = (c : Range) × IsIn c chunks × (c.start ≡ r.start) × (r.len ≤ c.len) × (0 < r.len)

-- some ranges are fronts of chunks, and no byte is in two of them: so the chunks have these bytes, and perhaps more
pub record AreFronts (chunks fronts : List Range) : Type 0 where
  pub each : (r : Range) → IsIn r fronts → IsFront chunks r
  pub disjoint : (a : ℕ) → coverage itself fronts a ≤ 1

-- a block of this length has a class that reaches the size, and so has each longer one
pub record IsTakenFor (sllen size least : ℕ) : Type 0 where
  pub is : IsSize least
  pub reaches : Reaches sllen (class_of sllen least) size

-- Some ranges are long enough for `live` blocks of `most` bytes. Their total length is above a sum: 32 bytes for each range,
-- `most` for each block, and `least - 32` for each block and each range. A free range of `least` bytes can be taken
pub record HasBudget (live most sllen : ℕ) (ranges : List Range) : Type 0 where
  pub least : ℕ
  pub taken : IsTakenFor sllen most least
  pub enough : 32 * length ranges + live * most + (live + length ranges) * (least - 32) < total_len ranges

-- Some ranges are long enough for `live` blocks of `bytes` bytes together, and one more of `most`. Their total length is above a sum:
-- 32 bytes for each range, `bytes`, and `least - 32` for each block and each range. A free range of `least` bytes can be taken
pub record HasRoomForBudget (live bytes most sllen : ℕ) (ranges : List Range) : Type 0 where
  pub least : ℕ
  pub taken : IsTakenFor sllen most least
  pub enough : 32 * length ranges + bytes + (live + length ranges) * (least - 32) < total_len ranges

-- no used block is longer
abbrev pub AreAtMost : ℕ → List Used → Type 0
AreAtMost most used = (u : Used) → IsIn u used → u.block.len ≤ most

-- If the call requests bytes, at most `live` payloads are live before it, and the sought block is at most `most` bytes long. The
-- call takes no memory away
abbrev pub IsModest : ℕ → ℕ → State → Event → Type 0
IsModest live most s (insert r reply) = Unit {0}
IsModest live most s (append r reply) = Unit {0}
IsModest live most s (allocate size align reply) = (length s.used ≤ live) × (request_size size align ≤ most)
IsModest live most s (deallocate addr) = Unit {0}
IsModest live most s (reallocate addr size reply) = (length s.used ≤ live) × ((u : Used) → Holds s addr u → request_size size u.align ≤ most)
IsModest live most s (fill addr bytes) = Unit {0}
IsModest live most s (remove r) = ⊥
IsModest live most s (trim n) = ⊥

-- a list of such calls with their replies, one after another, each of which its caller may make
abbrev pub RunsModestly : ℕ → ℕ → ℕ → ℕ → Range → State → List Event → State → Type 0
RunsModestly live most fllen sllen memory s [] t = t ≡ s
RunsModestly live most fllen sllen memory s (e ∷ es) t =
    (u : State) × MayCall memory s e × IsModest live most s e × Leads fllen sllen s e u × RunsModestly live most fllen sllen memory u es t

-- the call requests bytes
abbrev pub IsRequest : Event → Type 0
IsRequest (allocate size align reply) = Unit {0}
IsRequest (reallocate addr size reply) = Unit {0}
IsRequest e = ⊥

-- and, if the call requests bytes, the used blocks have at most `bytes` bytes together before it
abbrev pub IsFrugal : ℕ → ℕ → ℕ → State → Event → Type 0
IsFrugal live bytes most s e = IsModest live most s e × (IsRequest e → used_bytes s.used ≤ bytes)

-- a list of such calls with their replies, one after another, each of which its caller may make
abbrev pub RunsFrugally : ℕ → ℕ → ℕ → ℕ → ℕ → Range → State → List Event → State → Type 0
RunsFrugally live bytes most fllen sllen memory s [] t = t ≡ s
RunsFrugally live bytes most fllen sllen memory s (e ∷ es) t =
    (u : State) × MayCall memory s e × IsFrugal live bytes most s e × Leads fllen sllen s e u × RunsFrugally live bytes most fllen sllen memory u es t

-- the call requests bytes and gets none: an allocation or a reallocation is refused
abbrev pub IsDenied : Event → Type 0
IsDenied (insert r reply) = ⊥
IsDenied (append r reply) = ⊥
IsDenied (allocate size align reply) = reply ≡ None
IsDenied (deallocate addr) = ⊥
IsDenied (reallocate addr size reply) = reply ≡ None
IsDenied (fill addr bytes) = ⊥
IsDenied (remove r) = ⊥
IsDenied (trim n) = ⊥

-- how many payloads are live after a call, where n are before it
abbrev pub live_after : Event → ℕ → ℕ
live_after (insert r reply) n = n
live_after (append r reply) n = n
live_after (allocate size align None) n = n
live_after (allocate size align (Some addr)) n = n + 1
live_after (deallocate addr) n = n - 1
live_after (reallocate addr size reply) n = n
live_after (fill addr bytes) n = n
live_after (remove r) n = n
live_after (trim k) n = n

-- where the call asks for bytes, n is `live` or less, and neither the size nor the alignment is greater; and it takes no memory
-- away
abbrev pub AsksWithin : ℕ → ℕ → ℕ → ℕ → Event → Type 0
AsksWithin live most_size most_align n (insert r reply) = Unit {0}
AsksWithin live most_size most_align n (append r reply) = Unit {0}
AsksWithin live most_size most_align n (allocate size align reply) = (n ≤ live) × (size ≤ most_size) × (align ≤ most_align)
AsksWithin live most_size most_align n (deallocate addr) = Unit {0}
AsksWithin live most_size most_align n (reallocate addr size reply) = (n ≤ live) × (size ≤ most_size)
AsksWithin live most_size most_align n (fill addr bytes) = Unit {0}
AsksWithin live most_size most_align n (remove r) = ⊥
AsksWithin live most_size most_align n (trim k) = ⊥

-- and so does each call of a list, where n payloads are live before the first one
abbrev pub AreWithin : ℕ → ℕ → ℕ → ℕ → List Event → Type 0
AreWithin live most_size most_align n [] = Unit {0}
AreWithin live most_size most_align n (e ∷ es) = AsksWithin live most_size most_align n e × AreWithin live most_size most_align (live_after e n) es
