-- What holds of how much memory is enough: laws of runs, known before the first call.
use Rattle.std.specs.Prelude.{◌≡◌, ◌≢◌, ◌↔◌, ℕ, ◌+◌, ◌-◌, ◌*◌, ◌<◌, ◌≤◌, List, [], ◌∷◌, length, Option, Some, None}
use Rattle.rlsf_base.specs.declared.memory.range.Range.{Range}
use Rattle.rlsf_model_sizes.specs.PowerOfTwo.{IsPowerOfTwo}
use Rattle.rlsf_model_sizes.specs.SizeClass.{class_of, IsValid, Reaches}
use Rattle.rlsf_model_sizes.specs.Sizes.{IsSize, map_ceil_and_unmap, payloads_length, pool_size_for_budget, pool_size_for_objects, pool_size_for_payloads, request_size}
use Rattle.rlsf_model.specs.Allocate.{Allocates}
use Rattle.rlsf_model.specs.Budget.{total_len, used_bytes, AreFronts, AreAtMost, HasBudget, IsTakenFor, HasRoomForBudget, RunsFrugally, RunsModestly, IsDenied, AreWithin, live_after}
use Rattle.rlsf_model.specs.FlexRun.{FlexEvent, IsFlexRun, events_in, notes_in}
use Rattle.rlsf_model.specs.FlexState.{FlexState}
use Rattle.rlsf_model.specs.Lists.{IsIn}
use Rattle.rlsf_model.specs.Release.{Deallocates}
use Rattle.rlsf_model.specs.Run.{Event, Leads, MayCall, Runs}
use Rattle.rlsf_model.specs.State.{State}
use Rattle.rlsf_model.specs.Terms.{Terms}
use Rattle.rlsf_model.specs.Uniform.{IsUniform, AsksUniformly, AsksForObject, blocks_in, AreDeniedOnlyAt}
use Rattle.rlsf_model.specs.WellFormed.{IsWellFormed}

-- there are at most as many free ranges as used blocks and chunks together
abbrev pub FewFree : Type 0
FewFree = (fllen sllen : ℕ) (memory : Range) (s : State) → IsWellFormed fllen sllen memory s → length s.free ≤ length s.used + length s.chunks

-- the free ranges, the used blocks and 32 bytes of each chunk are together as long as the chunks
abbrev pub BytesAddUp : Type 0
BytesAddUp = (fllen sllen : ℕ) (memory : Range) (s : State) → IsWellFormed fllen sllen memory s
    → total_len s.free + used_bytes s.used + 32 * length s.chunks ≡ total_len s.chunks

-- an allocation is not refused where the free bytes are so many that one of so few free ranges has room for it
abbrev pub BudgetIsEnough : Type 0
BudgetIsEnough = (fllen sllen least : ℕ) (memory : Range) (s t : State) (size align : ℕ) (reply : Option ℕ) → IsWellFormed fllen sllen memory s
    → IsTakenFor sllen (request_size size align) least → (length s.used + length s.chunks) * (least - 32) < total_len s.free → Allocates sllen s size align reply t
    → reply ≢ None

-- in a run whose calls keep to a budget that fronts of the chunks have, no allocation or reallocation is refused, whatever
-- memory comes meanwhile
abbrev pub ModestRunsAreNotDenied : Type 0
ModestRunsAreNotDenied = (live most fllen sllen : ℕ) (memory : Range) (s t : State) (fronts : List Range) (es : List Event) → IsWellFormed fllen sllen memory s
    → AreFronts s.chunks fronts → AreAtMost most s.used → HasBudget live most sllen fronts
    → RunsModestly live most fllen sllen memory s es t → (e : Event) → IsIn e es → IsDenied e → ⊥

-- in a run whose calls keep to a count of payloads and to a number of bytes that fronts of the chunks have room for, no allocation or
-- reallocation is refused, whatever memory comes meanwhile
abbrev pub FrugalRunsAreNotDenied : Type 0
FrugalRunsAreNotDenied = (live bytes most fllen sllen : ℕ) (memory : Range) (s t : State) (fronts : List Range) (es : List Event) → IsWellFormed fllen sllen memory s
    → AreFronts s.chunks fronts → HasRoomForBudget live bytes most sllen fronts
    → RunsFrugally live bytes most fllen sllen memory s es t → (e : Event) → IsIn e es → IsDenied e → ⊥

-- how many payloads are live after a step
abbrev pub LiveIsCounted : Type 0
LiveIsCounted = (fllen sllen : ℕ) (memory : Range) (s t : State) (e : Event) → IsWellFormed fllen sllen memory s → MayCall memory s e → Leads fllen sllen s e t
    → length t.used ≡ live_after e (length s.used)

-- From a state with nothing live, a run refuses no allocation or reallocation if it stays within bounds. The bounds are on its sizes,
-- its alignments and its live payloads, and fronts of the chunks have a budget for them. This holds whatever memory comes meanwhile
abbrev pub BoundedRunsAreNotDenied : Type 0
BoundedRunsAreNotDenied = (live size align fllen sllen : ℕ) (memory : Range) (s t : State) (fronts : List Range) (es : List Event) → IsWellFormed fllen sllen memory s
    → s.used ≡ [] → AreFronts s.chunks fronts → HasBudget live (request_size size align) sllen fronts
    → Runs fllen sllen memory s es t → AreWithin live size align 0 es → (e : Event) → IsIn e es → IsDenied e → ⊥

-- Blocks of one length, at which a class begins, fill a chunk from its start. Then an allocation is refused exactly if the chunk is
-- not long enough for one more
abbrev pub UniformIsFull : Type 0
UniformIsFull = (fllen sllen : ℕ) (memory : Range) (s t : State) (c : Range) (size align : ℕ) (reply : Option ℕ) → IsWellFormed fllen sllen memory s
    → IsUniform (request_size size align) c s → Reaches sllen (class_of sllen (request_size size align)) (request_size size align) → Allocates sllen s size align reply t
    → (reply ≡ None) ↔ (c.len < (length s.used + 1) * request_size size align + 32)

-- such an allocation, at an alignment of 32 or less, leaves blocks of that length alone
abbrev pub AllocationKeepsUniform : Type 0
AllocationKeepsUniform = (fllen sllen : ℕ) (memory : Range) (s t : State) (c : Range) (size align : ℕ) (reply : Option ℕ) → IsWellFormed fllen sllen memory s
    → IsPowerOfTwo align → align ≤ 32 → IsUniform (request_size size align) c s → Allocates sllen s size align reply t → IsUniform (request_size size align) c t

-- and so does a deallocation
abbrev pub DeallocationKeepsUniform : Type 0
DeallocationKeepsUniform = (len : ℕ) (s t : State) (c : Range) (addr : ℕ) → IsUniform len c s → Deallocates s addr t → IsUniform len c t

-- and so does a run of such calls
abbrev pub RunsKeepUniform : Type 0
RunsKeepUniform = (len fllen sllen : ℕ) (memory : Range) (s t : State) (c : Range) (es : List Event) → IsWellFormed fllen sllen memory s → IsUniform len c s
    → Runs fllen sllen memory s es t → ((e : Event) → IsIn e es → AsksUniformly len e) → IsUniform len c t

-- in which each allocation is refused exactly where as many payloads are live as the chunk has room for
abbrev pub UniformRunsAnswer : Type 0
UniformRunsAnswer = (len fllen sllen : ℕ) (memory : Range) (s t : State) (c : Range) (es : List Event) → IsWellFormed fllen sllen memory s → IsUniform len c s
    → 0 < len → Reaches sllen (class_of sllen len) len → Runs fllen sllen memory s es t → ((e : Event) → IsIn e es → AsksUniformly len e)
    → AreDeniedOnlyAt (blocks_in len c) (length s.used) es

-- ---- lengths of pools

-- with nothing live, a chunk of the length that is computed for so many payloads up to a layout refuses none of them
abbrev pub PayloadPoolIsEnough : Type 0
PayloadPoolIsEnough = (fl_bits sl_bits fllen sllen count size align len : ℕ) (memory : Range) (s t : State) (c : Range) (es : List Event) → IsValid fl_bits sl_bits fllen sllen
    → IsWellFormed fllen sllen memory s
    → pool_size_for_payloads fllen sllen count size align ≡ Some len → s.used ≡ [] → IsIn c s.chunks → len ≤ c.len
    → Runs fllen sllen memory s es t → AreWithin count size align 0 es → (e : Event) → IsIn e es → IsDenied e → ⊥

-- a chunk of the length that is computed for so many payloads, whose blocks have so many bytes together, refuses none up to a layout
-- while the live ones keep to both. Nothing else matters: payloads may be live, and blocks may have any length
abbrev pub BudgetPoolIsEnough : Type 0
BudgetPoolIsEnough = (fl_bits sl_bits fllen sllen count bytes size align len : ℕ) (memory : Range) (s t : State) (c : Range) (es : List Event)
    → IsValid fl_bits sl_bits fllen sllen → IsWellFormed fllen sllen memory s
    → pool_size_for_budget fllen sllen count bytes size align ≡ Some len → IsIn c s.chunks → len ≤ c.len
    → RunsFrugally count bytes (request_size size align) fllen sllen memory s es t → (e : Event) → IsIn e es → IsDenied e → ⊥

-- in some run whose calls keep to the bounds one is refused
pub record EndsRefused (live most fllen sllen : ℕ) (memory : Range) (s : State) : Type 0 where
  pub calls : List Event
  pub after : State
  pub refused : Event
  pub run : RunsModestly live most fllen sllen memory s calls after
  pub is_call : IsIn refused calls
  pub denied : IsDenied refused

-- in no such run is a call refused
abbrev pub NeverRefuses : ℕ → ℕ → ℕ → ℕ → Range → State → Type 0
NeverRefuses live most fllen sllen memory s =
    (es : List Event) (t : State) (e : Event) → RunsModestly live most fllen sllen memory s es t → IsIn e es → IsDenied e → ⊥

-- That length is exact for blocks of up to `most` bytes, with `live` or fewer live at a time. A chunk alone, with nothing live, refuses
-- none of them exactly if it is at least that long. For a shorter chunk some list of calls is refused
abbrev pub PayloadPoolIsExact : Type 0
PayloadPoolIsExact = (fl_bits sl_bits fllen sllen live most least : ℕ) (memory : Range) (s : State) (c : Range) → IsValid fl_bits sl_bits fllen sllen
    → IsWellFormed fllen sllen memory s → IsSize most → map_ceil_and_unmap fllen sllen most ≡ Some least → s.used ≡ [] → s.chunks ≡ c ∷ []
    → (payloads_length live most least ≤ c.len → NeverRefuses live most fllen sllen memory s)
    × (c.len < payloads_length live most least → EndsRefused live most fllen sllen memory s)

-- in some run whose calls stay within the bounds of a count, a size and an alignment one is refused
pub record EndsRefusedWithin (count size align fllen sllen : ℕ) (memory : Range) (s : State) : Type 0 where
  pub calls : List Event
  pub after : State
  pub refused : Event
  pub run : Runs fllen sllen memory s calls after
  pub within : AreWithin count size align 0 calls
  pub is_call : IsIn refused calls
  pub denied : IsDenied refused

-- in no such run is a call refused
abbrev pub NeverRefusesWithin : ℕ → ℕ → ℕ → ℕ → ℕ → Range → State → Type 0
NeverRefusesWithin count size align fllen sllen memory s =
    (es : List Event) (t : State) (e : Event) → Runs fllen sllen memory s es t → AreWithin count size align 0 es → IsIn e es → IsDenied e → ⊥

-- It is exact for layouts with an alignment of at most 16, with `count` or fewer payloads live at a time. A chunk alone, with nothing
-- live, refuses no payload of up to a layout exactly if it is at least that long. For a shorter one some list of calls is refused. Above
-- 16 the length is enough
abbrev pub LayoutPoolIsExact : Type 0
LayoutPoolIsExact = (fl_bits sl_bits fllen sllen count size align len : ℕ) (memory : Range) (s : State) (c : Range) → IsValid fl_bits sl_bits fllen sllen
    → IsWellFormed fllen sllen memory s → IsPowerOfTwo align → align ≤ 16 → pool_size_for_payloads fllen sllen count size align ≡ Some len → s.used ≡ []
    → s.chunks ≡ c ∷ []
    → (len ≤ c.len → NeverRefusesWithin count size align fllen sllen memory s) × (c.len < len → EndsRefusedWithin count size align fllen sllen memory s)

-- A chunk alone, with nothing live, of the length that is computed for so many objects of a size has room for exactly as many. All
-- of them request the size that is computed, which is at least theirs
abbrev pub ObjectPoolIsExact : Type 0
ObjectPoolIsExact = (fl_bits sl_bits fllen sllen count size len asked : ℕ) (memory : Range) (s t : State) (c : Range) (es : List Event) → IsValid fl_bits sl_bits fllen sllen
    → IsWellFormed fllen sllen memory s → pool_size_for_objects fllen sllen count size ≡ Some (len, asked) → s.used ≡ [] → s.chunks ≡ c ∷ [] → c.len ≡ len
    → Runs fllen sllen memory s es t → ((e : Event) → IsIn e es → AsksForObject asked e) → (size ≤ asked) × AreDeniedOnlyAt count 0 es

-- ---- over a source of memory

-- within such bounds a source is never asked: a run over it is a run of the reference model alone by the same calls with the same
-- replies, none of which refuses bytes
abbrev pub FlexNeverAsked : Type 0
FlexNeverAsked = (live size align fllen sllen : ℕ) (memory : Range) (t : Terms) (s u : FlexState) (fronts : List Range) (cs : List FlexEvent)
    → IsWellFormed fllen sllen memory s.machine
    → s.machine.used ≡ [] → AreFronts s.machine.chunks fronts → HasBudget live (request_size size align) sllen fronts → IsFlexRun fllen sllen memory t s cs u
    → AreWithin live size align 0 (events_in cs)
    → (notes_in cs ≡ []) × Runs fllen sllen memory s.machine (events_in cs) u.machine × ((e : Event) → IsIn e (events_in cs) → IsDenied e → ⊥)

-- the laws of how much memory is enough, by name
pub record SizingLaws : Type 0 where
  pub few_free : FewFree
  pub bytes : BytesAddUp
  pub budget : BudgetIsEnough
  pub modest_runs : ModestRunsAreNotDenied
  pub frugal_runs : FrugalRunsAreNotDenied
  pub live : LiveIsCounted
  pub bounded_runs : BoundedRunsAreNotDenied
  pub uniform_full : UniformIsFull
  pub uniform_allocation : AllocationKeepsUniform
  pub uniform_release : DeallocationKeepsUniform
  pub uniform_runs : RunsKeepUniform
  pub uniform_answers : UniformRunsAnswer
  pub payload_pool : PayloadPoolIsEnough
  pub budget_pool : BudgetPoolIsEnough
  pub payload_pool_exact : PayloadPoolIsExact
  pub layout_pool_exact : LayoutPoolIsExact
  pub object_pool : ObjectPoolIsExact
  pub flex_never_asked : FlexNeverAsked
