-- What holds of the reference model's states and steps.
use Rattle.std.specs.Prelude.{◌≡◌, ◌≢◌, true, ◌↔◌, ◌⊎◌, ℕ, ◌+◌, ◌*◌, ◌%◌, ◌^◌, ◌<◌, ◌≤◌, List, [], ◌∷◌, ◌++◌, filter}
use Rattle.std.specs.Prelude.{length, Option, Some, None, IfNone, IfSome, ◌==◌, min, ◌-◌, map}
use Rattle.rlsf_base.specs.declared.memory.range.Range.{Range}
use Rattle.rlsf_model_sizes.specs.PowerOfTwo.{IsPowerOfTwo}
use Rattle.rlsf_base.specs.Range.{end_of, range_at, LiesIn}
use Rattle.rlsf_model_sizes.specs.SizeClass.{class_of, IsAtMost, IsValid, Reaches}
use Rattle.rlsf_model_sizes.specs.Sizes.{max_pool_size, pool_size_to_contain_allocation, request_size}
use Rattle.rlsf_model.specs.Allocate.{choice, has_class, Allocates}
use Rattle.rlsf_model.specs.Answers.{MayAnswerAll}
use Rattle.rlsf_model.specs.Callers.{Payload, payload_at, Changes, ChangesAll}
use Rattle.rlsf_model.specs.End.{notes_at_end, owed_at_end}
use Rattle.rlsf_model.specs.FlexRun.{AllComeTo, AreSameCalls, FlexEvent, FlexLeads, FlexMayCall, HandsIn, IsFlexRun, IsFlexStep, events_in, notes_in}
use Rattle.rlsf_model.specs.FlexState.{FlexState, AreFlexSimilar, flex_empty}
use Rattle.rlsf_model.specs.FlexWellFormed.{IsFlexWellFormed}
use Rattle.rlsf_model.specs.Growth.{Extends, IsPossible, Outcome, Questions, is_more, notes_of}
use Rattle.rlsf_model.specs.Insert.{body, cut, Inserts, IsClear}
use Rattle.rlsf_model.specs.Lists.{IsIn, without}
use Rattle.rlsf_model.specs.Note.{Note, AnswersAgree, dealloc}
use Rattle.rlsf_model.specs.NoMove.{ReallocatesWithoutMove}
use Rattle.rlsf_model.specs.Owed.{OwesAfterAll}
use Rattle.rlsf_model.specs.Reallocate.{Keeps, Reallocates}
use Rattle.rlsf_model.specs.Release.{Deallocates}
use Rattle.rlsf_model.specs.Remove.{IsIdle, IsRemovable, Removes}
use Rattle.rlsf_model.specs.Run.{Event, insert, append, allocate, deallocate, reallocate, fill, remove, trim, Fills, Leads, MayCall, CallNames, Runs, IsRemoval, IsSameCall}
use Rattle.rlsf_model.specs.Run.{IsCallRefused}
use Rattle.rlsf_model.specs.State.{State, Used, empty, usable, Holds, HasBytes, IsLive, AreAlike, IsReordered, AreSimilar}
use Rattle.rlsf_model.specs.Terms.{Terms}
use Rattle.rlsf_model.specs.WellFormed.{covers, IsWellFormed}

-- the state before any range is inserted is well-formed
abbrev pub EmptyIsWellFormed : Type 0
EmptyIsWellFormed = (fllen sllen : ℕ) (memory : Range) → 0 < fllen → 0 < sllen → end_of memory < 2 ^ 64 → IsWellFormed fllen sllen memory empty

-- each step that its caller may make keeps a state well-formed
abbrev pub StepsKeepWellFormed : Type 0
StepsKeepWellFormed = (fllen sllen : ℕ) (memory : Range) (s t : State) (e : Event)
    → IsWellFormed fllen sllen memory s → MayCall memory s e → Leads fllen sllen s e t → IsWellFormed fllen sllen memory t

-- and so does each run of them
abbrev pub RunsKeepWellFormed : Type 0
RunsKeepWellFormed = (fllen sllen : ℕ) (memory : Range) (s t : State) (es : List Event)
    → IsWellFormed fllen sllen memory s → Runs fllen sllen memory s es t → IsWellFormed fllen sllen memory t

-- a step's only freedom is what fresh bytes hold: the call and the state before it determine the reply, and the
-- state after it except for bytes
abbrev pub StepsAreDetermined : Type 0
StepsAreDetermined = (fllen sllen : ℕ) (memory : Range) (s t t' : State) (e e' : Event) → IsWellFormed fllen sllen memory s
    → Leads fllen sllen s e t → Leads fllen sllen s e' t' → IsSameCall e e' → (e ≡ e') × AreAlike t t'

-- The order of chunks and of used blocks means nothing. A step that can be made in one order can be made in another with the same
-- reply. Both lead to states that differ in this order alone
abbrev pub OrderMeansNothing : Type 0
OrderMeansNothing = (fllen sllen : ℕ) (memory : Range) (s s' t : State) (e : Event) → IsWellFormed fllen sllen memory s → IsWellFormed fllen sllen memory s'
    → IsReordered s s' → Leads fllen sllen s e t → (t' : State) × Leads fllen sllen s' e t' × IsReordered t t'

-- a refused call changes nothing
abbrev pub RefusalChangesNothing : Type 0
RefusalChangesNothing = (fllen sllen : ℕ) (s t : State) (e : Event) → Leads fllen sllen s e t → IsCallRefused e → t ≡ s

-- the length of the first chunk that is cut off: all there is, but no more than the greatest length
abbrev pub first_length : Option ℕ → ℕ → ℕ
first_length None len = len
first_length (Some most) len = min len most

-- no chunk is cut from fewer than 64 bytes; else the first one is cut off, and the others from what is left
abbrev pub IsCutOff : ℕ → ℕ → Option ℕ → Type 0
IsCutOff at len most =
    (len < 64 → cut most (range_at at len) ≡ [])
    × (64 ≤ len → cut most (range_at at len)
    ≡ range_at at (first_length most len) ∷ cut most (range_at (at + first_length most len) (len - first_length most len)))

-- the chunks of an aligned part are cut off its front, while 64 bytes or more are left
abbrev pub ChunksAreCutOffTheFront : Type 0
ChunksAreCutOffTheFront = (fllen at len : ℕ) → 0 < fllen → IsCutOff at len (max_pool_size fllen)

-- a live address is a multiple of its alignment
abbrev pub LiveAddressesAreAligned : Type 0
LiveAddressesAreAligned = (fllen sllen : ℕ) (memory : Range) (s : State) (addr align : ℕ) → IsWellFormed fllen sllen memory s → IsLive s addr align → addr % align ≡ 0

-- a live address has one used block, which occurs once among them
abbrev pub LiveAddressHasOneBlock : Type 0
LiveAddressHasOneBlock = (fllen sllen : ℕ) (memory : Range) (s : State) (addr : ℕ) (u : Used) → IsWellFormed fllen sllen memory s → Holds s addr u
    → filter (λ v. v.payload == addr) s.used ≡ u ∷ []

-- the usable ranges of different live payloads have no byte in common
abbrev pub PayloadsAreDisjoint : Type 0
PayloadsAreDisjoint = (fllen sllen : ℕ) (memory : Range) (s : State) (u v : Used) (a : ℕ) → IsWellFormed fllen sllen memory s → IsIn u s.used → IsIn v s.used
    → u.payload ≢ v.payload → covers (usable u) a + covers (usable v) a ≤ 1

-- a live payload's usable range lies in one chunk: there is a chunk that has it, and no byte of it is in another
abbrev pub PayloadLiesInOneChunk : Type 0
PayloadLiesInOneChunk = (fllen sllen : ℕ) (memory : Range) (s : State) (u : Used) → IsWellFormed fllen sllen memory s → IsIn u s.used
    → (c : Range) × IsIn c s.chunks × (c.start ≤ (usable u).start) × (end_of (usable u) ≤ end_of c)
    × ((d : Range) (a : ℕ) → IsIn d s.chunks → covers (usable u) a ≡ 1 → covers d a ≡ 1 → d ≡ c)

-- a used block with the requested size, and less than 32 bytes more
abbrev pub HasSize : State → ℕ → ℕ → Type 0
HasSize t size addr = (u : Used) × Holds t addr u × (size ≤ (usable u).len) × ((usable u).len < size + 32)

-- an allocation returns as many usable bytes as requested, and less than 32 more
abbrev pub AllocationHasSize : Type 0
AllocationHasSize = (fllen sllen : ℕ) (memory : Range) (s t : State) (size align : ℕ) (reply : Option ℕ) → IsWellFormed fllen sllen memory s → IsPowerOfTwo align
    → Allocates sllen s size align reply t → IfSome reply (HasSize t size)

-- and so does a reallocation
abbrev pub ReallocationHasSize : Type 0
ReallocationHasSize = (fllen sllen : ℕ) (memory : Range) (s t : State) (addr size : ℕ) (reply : Option ℕ) → IsWellFormed fllen sllen memory s
    → Reallocates sllen s addr size reply t → IfSome reply (HasSize t size)

-- a free range that is longer than what is sought by one SLLENth of it makes an allocation succeed
abbrev pub RoomIsFound : Type 0
RoomIsFound = (fllen sllen : ℕ) (memory : Range) (s t : State) (size align : ℕ) (reply : Option ℕ) (f : Range) → IsWellFormed fllen sllen memory s → IsIn f s.free
    → request_size size align * (sllen + 1) ≤ f.len * sllen → Allocates sllen s size align reply t → reply ≢ None

-- an inserted pool of the length that is computed for an allocation, at a multiple of 32, makes the allocation succeed from every state
abbrev pub PoolHasRoom : Type 0
PoolHasRoom = (fl_bits sl_bits fllen sllen size align e at : ℕ) (s t u : State) (taken reply : Option ℕ) → IsValid fl_bits sl_bits fllen sllen
    → pool_size_to_contain_allocation fllen sllen size align ≡ Some e → at % 32 ≡ 0
    → Inserts fllen s (range_at at e) taken t → Allocates sllen t size align reply u → reply ≢ None

-- every allocation has a reply, from every state
abbrev pub AllocationAnswers : Type 0
AllocationAnswers = (sllen : ℕ) (s : State) (size align : ℕ) → (reply : Option ℕ) × (t : State) × Allocates sllen s size align reply t

-- an allocation is refused exactly where no free range's class reaches what is sought
abbrev pub RefusedWithoutReach : Type 0
RefusedWithoutReach = (sllen size : ℕ) (free : List Range)
    → (choice sllen size free ≡ None) ↔ ((f : Range) → IsIn f free → Reaches sllen (class_of sllen f.len) size → ⊥)

-- the range f is in the list, behind ranges of other classes alone; without it the others are left in their order
pub record IsFirstOfClass (sllen : ℕ) (free : List Range) (f : Range) : Type 0 where
  pub before : List Range
  pub after : List Range
  pub place : free ≡ before ++ f ∷ after
  pub others : (g : Range) → IsIn g before → class_of sllen g.len ≢ class_of sllen f.len
  pub left : without (has_class sllen (class_of sllen f.len)) free ≡ before ++ after

-- else it takes the first range of the least class that reaches
abbrev pub ChoiceIsFirstOfLeast : Type 0
ChoiceIsFirstOfLeast = (sllen size : ℕ) (free : List Range) (f : Range) → choice sllen size free ≡ Some f
    → IsFirstOfClass sllen free f × Reaches sllen (class_of sllen f.len) size
    × ((g : Range) → IsIn g free → Reaches sllen (class_of sllen g.len) size → IsAtMost (class_of sllen f.len) (class_of sllen g.len))

-- a chunk of which no used block has a byte holds exactly one free range, all of it but its last 32 bytes
abbrev pub IdleChunkIsOneRange : Type 0
IdleChunkIsOneRange = (fllen sllen : ℕ) (memory : Range) (s : State) (c : Range) → IsWellFormed fllen sllen memory s → IsIdle s c → IsIn c s.chunks
    → IsIn (body c) s.free × ((f : Range) → IsIn f s.free → covers c f.start ≡ 1 → f ≡ body c)

-- among the chunks is this one, or a longer one that begins where it does
abbrev pub IsChunkKept : Range → State → Type 0
IsChunkKept c t = (d : Range) × IsIn d t.chunks × (d.start ≡ c.start) × ((d ≡ c) ⊎ (end_of c + 32 ≤ end_of d))

-- each step that takes no memory away keeps the chunks, one of which may grow: so no byte of a chunk leaves them
abbrev pub ChunksStay : Type 0
ChunksStay = (fllen sllen : ℕ) (s t : State) (e : Event) (c : Range) → (IsRemoval e → ⊥) → Leads fllen sllen s e t → IsIn c s.chunks → IsChunkKept c t

-- of some ranges those in r are gone, with each byte that they had of it, and the others are left
pub record LeavesOtherRanges (r : Range) (before after : List Range) : Type 0 where
  pub clear : IsClear r after
  pub left : (x : Range) → IsIn x before → ((r.start ≤ x.start) × (end_of x ≤ end_of r)) ⊎ IsIn x after
  pub were : (x : Range) → IsIn x after → IsIn x before

-- a removal takes the chunks and the free ranges in its range away, and leaves all others and each used block with its bytes
abbrev pub RemovalLeavesOthers : Type 0
RemovalLeavesOthers = (fllen sllen : ℕ) (memory : Range) (s t : State) (r : Range) → IsWellFormed fllen sllen memory s → IsRemovable s r → Removes s r t
    → LeavesOtherRanges r s.chunks t.chunks × LeavesOtherRanges r s.free t.free × (t.used ≡ s.used)

-- a step that doesn't name a payload leaves its block with its bytes as it was
abbrev pub OtherPayloadsStay : Type 0
OtherPayloadsStay = (fllen sllen : ℕ) (s t : State) (e : Event) (u : Used) → Leads fllen sllen s e t → IsIn u s.used → (CallNames e u.payload → ⊥) → IsIn u t.used

-- the address that an allocation returns was not live, and is live with the requested alignment
abbrev pub HandedOutIsNew : Type 0
HandedOutIsNew = (fllen sllen : ℕ) (memory : Range) (s t : State) (size align addr : ℕ) → IsWellFormed fllen sllen memory s → IsPowerOfTwo align
    → Allocates sllen s size align (Some addr) t → ((old : ℕ) → IsLive s addr old → ⊥) × IsLive t addr align

-- a reallocation keeps the payload live with its alignment, at an address that is its old one or was not live
abbrev pub ReallocatedIsLive : Type 0
ReallocatedIsLive = (fllen sllen : ℕ) (memory : Range) (s t : State) (addr size to align : ℕ) → IsWellFormed fllen sllen memory s → IsLive s addr align
    → Reallocates sllen s addr size (Some to) t → IsLive t to align × ((other : ℕ) → IsLive s to other → to ≡ addr)

-- a live address stays live over each step that doesn't name it, as an allocation or a deallocation of another
abbrev pub LiveStays : Type 0
LiveStays = (fllen sllen : ℕ) (s t : State) (e : Event) (addr align : ℕ) → Leads fllen sllen s e t → IsLive s addr align → (CallNames e addr → ⊥) → IsLive t addr align

-- an address that was deallocated is not live
abbrev pub ReleasedIsNotLive : Type 0
ReleasedIsNotLive = (s t : State) (addr align : ℕ) → Deallocates s addr t → IsLive t addr align → ⊥

-- what was filled is live with its alignment, and has the bytes that were left in it
abbrev pub FilledHasBytes : Type 0
FilledHasBytes = (fllen sllen : ℕ) (memory : Range) (s t : State) (addr align : ℕ) (bytes : List ℕ) → IsWellFormed fllen sllen memory s → IsLive s addr align
    → Fills s addr bytes t → IsLive t addr align × HasBytes t addr bytes

-- a fill leaves the chunks, the free ranges and all other used blocks, and makes no other
abbrev pub FillLeavesOthers : Type 0
FillLeavesOthers = (s t : State) (addr : ℕ) (bytes : List ℕ) → Fills s addr bytes t
    → (t.chunks ≡ s.chunks) × (t.free ≡ s.free) × ((u : Used) → u.payload ≢ addr → IsIn u s.used ↔ IsIn u t.used)

-- a deallocation leaves the chunks and all other used blocks, and makes none
abbrev pub DeallocationLeavesOthers : Type 0
DeallocationLeavesOthers = (s t : State) (addr : ℕ) → Deallocates s addr t
    → (t.chunks ≡ s.chunks) × ((u : Used) → IsIn u t.used ↔ (IsIn u s.used × (u.payload ≢ addr)))

-- a chunk that an insert makes lies in the inserted range
abbrev pub InsertedChunksLieInRange : Type 0
InsertedChunksLieInRange = (fllen : ℕ) (s t : State) (r : Range) (reply : Option ℕ) (c : Range) → Inserts fllen s r reply t → IsIn c t.chunks
    → IsIn c s.chunks ⊎ ((r.start ≤ c.start) × (end_of c ≤ end_of r))

-- the call returns the address
abbrev pub CallReturns : Event → ℕ → Type 0
CallReturns (insert r reply) addr = ⊥
CallReturns (append r reply) addr = ⊥
CallReturns (allocate size align reply) addr = reply ≡ Some addr
CallReturns (deallocate at) addr = ⊥
CallReturns (reallocate at size reply) addr = reply ≡ Some addr
CallReturns (fill at bytes) addr = ⊥
CallReturns (remove r) addr = ⊥
CallReturns (trim count) addr = ⊥

-- a used block that a step names neither in its call nor in its reply was there before, with the same bytes
abbrev pub UsedWasUsed : Type 0
UsedWasUsed = (fllen sllen : ℕ) (s t : State) (e : Event) (u : Used) → Leads fllen sllen s e t → IsIn u t.used
    → (CallNames e u.payload → ⊥) → (CallReturns e u.payload → ⊥) → IsIn u s.used

-- from similar states the same call has the same reply, and leads to similar states
abbrev pub SimilarStatesAgree : Type 0
SimilarStatesAgree = (fllen sllen : ℕ) (memory : Range) (s s' t t' : State) (e e' : Event) → IsWellFormed fllen sllen memory s → IsWellFormed fllen sllen memory s'
    → AreSimilar s s' → Leads fllen sllen s e t → Leads fllen sllen s' e' t' → IsSameCall e e' → (e ≡ e') × AreSimilar t t'

-- a call that fills a payload has as many bytes as the payload
abbrev pub FillsWhole : State → Event → Type 0
FillsWhole s (fill addr bytes) = (u : Used) × Holds s addr u × (length bytes ≡ length u.bytes)
FillsWhole s e = Unit {0}

-- each call that its caller may make has a reply and a state after
abbrev pub EachCallAnswers : Type 0
EachCallAnswers = (fllen sllen : ℕ) (memory : Range) (s : State) (e : Event) → MayCall memory s e → FillsWhole s e
    → (e' : Event) × (t : State) × IsSameCall e e' × Leads fllen sllen s e' t

-- a payload that gets another size is one used block with its alignment and the requested size, and keeps the bytes that both sizes have
abbrev pub ReallocationKeepsBytes : Type 0
ReallocationKeepsBytes = (fllen sllen : ℕ) (memory : Range) (s t : State) (addr size to : ℕ) (u : Used) → IsWellFormed fllen sllen memory s → Holds s addr u
    → Reallocates sllen s addr size (Some to) t
    → (v : Used) × Holds t to v × (v.align ≡ u.align) × Keeps u.bytes v.bytes × (size ≤ (usable v).len) × ((usable v).len < size + 32)

-- what is at an address is the payload of the used block whose caller has the address
abbrev pub PayloadIsInBlock : Type 0
PayloadIsInBlock = (fllen sllen : ℕ) (memory : Range) (s : State) (addr : ℕ) (p : Payload) → IsWellFormed fllen sllen memory s
    → (payload_at s addr ≡ Some p) ↔ ((u : Used) × Holds s addr u × (p ≡ record { align = u.align; bytes = u.bytes }))

-- to its callers the reference model is a map from addresses to payloads: each step changes it as the call and its reply say
abbrev pub CallersSeeMap : Type 0
CallersSeeMap = (fllen sllen : ℕ) (memory : Range) (s t : State) (e : Event) → IsWellFormed fllen sllen memory s → MayCall memory s e
    → Leads fllen sllen s e t → Changes (payload_at s) e (payload_at t)

-- with nothing live, a chunk of the pool size that is computed for an allocation makes it succeed
abbrev pub IdleChunkHasRoom : Type 0
IdleChunkHasRoom = (fl_bits sl_bits fllen sllen size align e : ℕ) (memory : Range) (s t : State) (c : Range) (reply : Option ℕ) → IsValid fl_bits sl_bits fllen sllen
    → IsWellFormed fllen sllen memory s → pool_size_to_contain_allocation fllen sllen size align ≡ Some e → s.used ≡ [] → IsIn c s.chunks → e ≤ c.len
    → Allocates sllen s size align reply t → reply ≢ None

-- a fill leaves a similar state
abbrev pub FillIsSimilar : Type 0
FillIsSimilar = (s t : State) (addr : ℕ) (bytes : List ℕ) → Fills s addr bytes t → AreSimilar s t

-- a reallocation without a move leads where a reallocation does, and its payload stays at its address; or it is refused, and
-- nothing changes
abbrev pub UnmovedIsReallocated : Type 0
UnmovedIsReallocated = (sllen : ℕ) (s t : State) (addr size : ℕ) (reply : Option ℕ) → ReallocatesWithoutMove s addr size reply t
    → IfSome reply (λ to. (to ≡ addr) × Reallocates sllen s addr size (Some to) t) × IfNone reply (t ≡ s)

-- ---- over a source of memory

-- over a source too, the reference model is a map from addresses to payloads to its callers: whatever was asked, each step between
-- well-formed states changes it as the call and its reply say
abbrev pub FlexCallersSeeMap : Type 0
FlexCallersSeeMap = (fllen sllen : ℕ) (terms : Terms) (before after : Range) (s u : FlexState) (e : Event) (notes : List Note) → IsWellFormed fllen sllen before s.machine
    → IsWellFormed fllen sllen after u.machine → FlexMayCall before s.machine e → FlexLeads fllen sllen terms s e notes u
    → Changes (payload_at s.machine) e (payload_at u.machine)

-- the reference model over a source to which nothing came yet is well-formed
abbrev pub FlexEmptyIsWellFormed : Type 0
FlexEmptyIsWellFormed = (fllen sllen : ℕ) (memory : Range) (t : Terms) → 0 < fllen → 0 < sllen → end_of memory < 2 ^ 64 → LiesIn t.space memory.start memory.len
    → IsFlexWellFormed fllen sllen memory t flex_empty

-- memory that comes for an allocation leaves a well-formed state, whatever of what it may answer the source answers
abbrev pub GrowthKeepsWellFormed : Type 0
GrowthKeepsWellFormed = (fl_bits sl_bits fllen sllen : ℕ) (memory : Range) (t : Terms) (s u : FlexState) (size align : ℕ) (outcome : Outcome) (notes : List Note)
    → IsValid fl_bits sl_bits fllen sllen → IsFlexWellFormed fllen sllen memory t s → MayAnswerAll t s.pools notes
    → Extends fllen t s (pool_size_to_contain_allocation fllen sllen size align) outcome notes u → IsFlexWellFormed fllen sllen memory t u

-- memory that comes for an allocation has room for it, however much comes: it isn't refused then
abbrev pub GrowthHasRoom : Type 0
GrowthHasRoom =
    (fl_bits sl_bits fllen sllen : ℕ) (memory : Range) (t : Terms) (s u : FlexState) (size align : ℕ) (outcome : Outcome) (notes : List Note) (reply : Option ℕ) (m : State)
    → IsValid fl_bits sl_bits fllen sllen → IsFlexWellFormed fllen sllen memory t s → MayAnswerAll t s.pools notes
    → Extends fllen t s (pool_size_to_contain_allocation fllen sllen size align) outcome notes u → is_more outcome ≡ true → Allocates sllen u.machine size align reply m
    → reply ≢ None

-- each step over a source keeps a state well-formed
abbrev pub FlexStepsKeepWellFormed : Type 0
FlexStepsKeepWellFormed = (fl_bits sl_bits fllen sllen : ℕ) (memory : Range) (t : Terms) (s u : FlexState) (e : Event) (notes : List Note) → IsValid fl_bits sl_bits fllen sllen
    → IsFlexWellFormed fllen sllen memory t s → IsFlexStep fllen sllen memory t s e notes u → IsFlexWellFormed fllen sllen memory t u

-- and so does each run of them
abbrev pub FlexRunsKeepWellFormed : Type 0
FlexRunsKeepWellFormed = (fl_bits sl_bits fllen sllen : ℕ) (memory : Range) (t : Terms) (s u : FlexState) (cs : List FlexEvent) → IsValid fl_bits sl_bits fllen sllen
    → IsFlexWellFormed fllen sllen memory t s → IsFlexRun fllen sllen memory t s cs u → IsFlexWellFormed fllen sllen memory t u

-- one call of a run: a step between two well-formed states, to which the calls before it led and from which those behind it lead
pub record IsCallOfRun (fllen sllen : ℕ) (memory : Range) (t : Terms) (s : FlexState) (before : List FlexEvent) (c : FlexEvent) (after : List FlexEvent)
    (u : FlexState) : Type 0 where
  pub old : FlexState
  pub now : FlexState
  pub led : IsFlexRun fllen sllen memory t s before old
  pub well_before : IsFlexWellFormed fllen sllen memory t old
  pub step : IsFlexStep fllen sllen memory t old c.event c.notes now
  pub well_after : IsFlexWellFormed fllen sllen memory t now
  pub leads : IsFlexRun fllen sllen memory t now after u

-- each call of a run over a source is such a step, so what is said of steps holds of it
abbrev pub FlexRunsAreSteps : Type 0
FlexRunsAreSteps = (fl_bits sl_bits fllen sllen : ℕ) (memory : Range) (t : Terms) (s u : FlexState) (before after : List FlexEvent) (c : FlexEvent)
    → IsValid fl_bits sl_bits fllen sllen
    → IsFlexWellFormed fllen sllen memory t s → IsFlexRun fllen sllen memory t s (before ++ c ∷ after) u → IsCallOfRun fllen sllen memory t s before c after u

-- Steps over a source are determined, if the source gives the same answers to the same questions. From similar states the same call
-- asks the same questions, has the same reply, and leads to similar states
abbrev pub FlexSimilarStatesAgree : Type 0
FlexSimilarStatesAgree = (fl_bits sl_bits fllen sllen : ℕ) (memory : Range) (t : Terms) (s s' u u' : FlexState) (e e' : Event) (notes notes' : List Note)
    → IsValid fl_bits sl_bits fllen sllen → IsFlexWellFormed fllen sllen memory t s → IsFlexWellFormed fllen sllen memory t s' → AreFlexSimilar s s'
    → MayAnswerAll t s.pools notes → FlexLeads fllen sllen t s e notes u → FlexLeads fllen sllen t s' e' notes' u' → IsSameCall e e' → AnswersAgree notes notes'
    → (e ≡ e') × (notes ≡ notes') × AreFlexSimilar u u'

-- and so are runs: the same calls with the same answers to the same questions have the same replies
abbrev pub FlexSimilarRunsAgree : Type 0
FlexSimilarRunsAgree = (fl_bits sl_bits fllen sllen : ℕ) (memory : Range) (t : Terms) (s s' u u' : FlexState) (cs cs' : List FlexEvent) → IsValid fl_bits sl_bits fllen sllen
    → IsFlexWellFormed fllen sllen memory t s → IsFlexWellFormed fllen sllen memory t s' → AreFlexSimilar s s' → IsFlexRun fllen sllen memory t s cs u
    → IsFlexRun fllen sllen memory t s' cs' u' → AreSameCalls cs cs' → AnswersAgree (notes_in cs) (notes_in cs') → (cs ≡ cs') × AreFlexSimilar u u'

-- a run over a source is one of the reference model alone, in which the memory that comes is inserted
abbrev pub FlexRunsAreRuns : Type 0
FlexRunsAreRuns = (fl_bits sl_bits fllen sllen : ℕ) (memory : Range) (t : Terms) (s u : FlexState) (cs : List FlexEvent) → IsValid fl_bits sl_bits fllen sllen
    → IsFlexWellFormed fllen sllen memory t s → IsFlexRun fllen sllen memory t s cs u → (es : List Event) × AllComeTo cs es × Runs fllen sllen memory s.machine es u.machine

-- each step over a source changes the callers' map as its call and its reply say
abbrev pub FlexStepsChangeMap : Type 0
FlexStepsChangeMap = (fl_bits sl_bits fllen sllen : ℕ) (memory : Range) (t : Terms) (s u : FlexState) (e : Event) (notes : List Note) → IsValid fl_bits sl_bits fllen sllen
    → IsFlexWellFormed fllen sllen memory t s → IsFlexStep fllen sllen memory t s e notes u → Changes (payload_at s.machine) e (payload_at u.machine)

-- where payloads lie: each at a multiple of its alignment in one used block, which occurs once; the usable ranges of different
-- ones have no byte in common, and each lies in one chunk
pub record PayloadsAreApart (s : State) : Type 0 where
  pub aligned : (addr align : ℕ) → IsLive s addr align → addr % align ≡ 0
  pub one_block : (addr : ℕ) (u : Used) → Holds s addr u → filter (λ v. v.payload == addr) s.used ≡ u ∷ []
  pub disjoint : (u v : Used) (a : ℕ) → IsIn u s.used → IsIn v s.used → u.payload ≢ v.payload → covers (usable u) a + covers (usable v) a ≤ 1
  pub in_one_chunk : (u : Used) → IsIn u s.used → (c : Range) × IsIn c s.chunks × (c.start ≤ (usable u).start) × (end_of (usable u) ≤ end_of c)
      × ((d : Range) (a : ℕ) → IsIn d s.chunks → covers (usable u) a ≡ 1 → covers d a ≡ 1 → d ≡ c)

-- so they lie after each run over a source
abbrev pub FlexPayloadsAreApart : Type 0
FlexPayloadsAreApart = (fl_bits sl_bits fllen sllen : ℕ) (memory : Range) (t : Terms) (s u : FlexState) (cs : List FlexEvent) → IsValid fl_bits sl_bits fllen sllen
    → IsFlexWellFormed fllen sllen memory t s → IsFlexRun fllen sllen memory t s cs u → PayloadsAreApart u.machine

-- over a source too an allocation gives as many usable bytes as were asked for, and less than 32 more
abbrev pub FlexAllocationHasSize : Type 0
FlexAllocationHasSize = (fl_bits sl_bits fllen sllen : ℕ) (memory : Range) (t : Terms) (s u : FlexState) (size align : ℕ) (reply : Option ℕ) (notes : List Note)
    → IsValid fl_bits sl_bits fllen sllen
    → IsFlexWellFormed fllen sllen memory t s → IsFlexStep fllen sllen memory t s (allocate size align reply) notes u → IfSome reply (HasSize u.machine size)

-- and so does a reallocation
abbrev pub FlexReallocationHasSize : Type 0
FlexReallocationHasSize = (fl_bits sl_bits fllen sllen : ℕ) (memory : Range) (t : Terms) (s u : FlexState) (addr size : ℕ) (reply : Option ℕ) (notes : List Note)
    → IsValid fl_bits sl_bits fllen sllen
    → IsFlexWellFormed fllen sllen memory t s → IsFlexStep fllen sllen memory t s (reallocate addr size reply) notes u → IfSome reply (HasSize u.machine size)

-- a payload that gets another size over a source is one used block with its alignment and the bytes that both sizes have
abbrev pub FlexReallocationKeepsBytes : Type 0
FlexReallocationKeepsBytes = (fl_bits sl_bits fllen sllen : ℕ) (memory : Range) (t : Terms) (s u : FlexState) (addr size to : ℕ) (notes : List Note) (x : Used)
    → IsValid fl_bits sl_bits fllen sllen → IsFlexWellFormed fllen sllen memory t s → IsFlexStep fllen sllen memory t s (reallocate addr size (Some to)) notes u
    → Holds s.machine addr x → (v : Used) × Holds u.machine to v × (v.align ≡ x.align) × Keeps x.bytes v.bytes

-- a step over a source that doesn't name a payload leaves its block with its bytes as it was
abbrev pub FlexOtherPayloadsStay : Type 0
FlexOtherPayloadsStay = (fllen sllen : ℕ) (t : Terms) (s u : FlexState) (e : Event) (notes : List Note) (x : Used) → FlexLeads fllen sllen t s e notes u
    → IsIn x s.machine.used → (CallNames e x.payload → ⊥) → IsIn x u.machine.used

-- a used block that a step over a source names neither in its call nor in its reply was there before, with the same bytes
abbrev pub FlexUsedWasUsed : Type 0
FlexUsedWasUsed = (fllen sllen : ℕ) (t : Terms) (s u : FlexState) (e : Event) (notes : List Note) (x : Used) → FlexLeads fllen sllen t s e notes u
    → IsIn x u.machine.used → (CallNames e x.payload → ⊥) → (CallReturns e x.payload → ⊥) → IsIn x s.machine.used

-- a run over a source changes the callers' map call by call
abbrev pub FlexRunsChangeMap : Type 0
FlexRunsChangeMap = (fl_bits sl_bits fllen sllen : ℕ) (memory : Range) (t : Terms) (s u : FlexState) (cs : List FlexEvent) → IsValid fl_bits sl_bits fllen sllen
    → IsFlexWellFormed fllen sllen memory t s → IsFlexRun fllen sllen memory t s cs u → ChangesAll (payload_at s.machine) (events_in cs) (payload_at u.machine)

-- a run over a source of which no call names a payload leaves its block with its bytes as it was
abbrev pub FlexOthersStayInRuns : Type 0
FlexOthersStayInRuns = (fllen sllen : ℕ) (memory : Range) (t : Terms) (s u : FlexState) (cs : List FlexEvent) (x : Used) → IsFlexRun fllen sllen memory t s cs u
    → IsIn x s.machine.used → ((e : Event) → IsIn e (events_in cs) → CallNames e x.payload → ⊥) → IsIn x u.machine.used

-- a used block that a run over a source names in none of its calls and replies was there before, with the same bytes
abbrev pub FlexUsedWasUsedInRuns : Type 0
FlexUsedWasUsedInRuns = (fllen sllen : ℕ) (memory : Range) (t : Terms) (s u : FlexState) (cs : List FlexEvent) (x : Used) → IsFlexRun fllen sllen memory t s cs u
    → IsIn x u.machine.used → ((e : Event) → IsIn e (events_in cs) → CallNames e x.payload → ⊥) → ((e : Event) → IsIn e (events_in cs) → CallReturns e x.payload → ⊥)
    → IsIn x s.machine.used

-- to whatever it is asked a source gives answers that it may give while these ranges are outstanding, and this comes of them
abbrev pub MayRespond : Terms → List Range → (Questions → Outcome) → Type 0
MayRespond t owed respond = (q : Questions) → IsPossible q (respond q) × MayAnswerAll t owed (notes_of q (respond q))

-- nothing was asked, or something, to which the source gave its answers, or ranges were returned
abbrev pub IsAnswered : (Questions → Outcome) → List Note → Type 0
IsAnswered respond notes = (notes ≡ []) ⊎ ((q : Questions) × (notes ≡ notes_of q (respond q))) ⊎ ((gone : List Range) × (notes ≡ map dealloc gone))

-- over a source, too, each call that its caller may make has a reply and a state after, for every answer that the source may give
abbrev pub FlexEachCallAnswers : Type 0
FlexEachCallAnswers = (fl_bits sl_bits fllen sllen : ℕ) (memory : Range) (t : Terms) (s : FlexState) (e : Event) (respond : Questions → Outcome)
    → IsValid fl_bits sl_bits fllen sllen → IsFlexWellFormed fllen sllen memory t s → FlexMayCall memory s.machine e → FillsWhole s.machine e → (HandsIn e → ⊥)
    → (IsRemoval e → ⊥) → MayRespond t s.pools respond
    → (e' : Event) × (notes : List Note) × (u : FlexState) × IsSameCall e e' × IsAnswered respond notes × IsFlexStep fllen sllen memory t s e' notes u

-- the ranges that are outstanding after a run are those that its answers leave outstanding; and so it is at the end: where the source
-- takes ranges back, each range that came is returned once, by a trim or at the end, and none is outstanding then
abbrev pub EachGoesBack : Type 0
EachGoesBack = (fl_bits sl_bits fllen sllen : ℕ) (memory : Range) (t : Terms) (s u : FlexState) (cs : List FlexEvent) → IsValid fl_bits sl_bits fllen sllen
    → IsFlexWellFormed fllen sllen memory t s → IsFlexRun fllen sllen memory t s cs u
    → OwesAfterAll s.pools (notes_in cs) u.pools × OwesAfterAll s.pools (notes_in cs ++ notes_at_end t u.pools) (owed_at_end t u.pools)

-- the laws of states and steps, by name
pub record StepLaws : Type 0 where
  pub empty : EmptyIsWellFormed
  pub steps : StepsKeepWellFormed
  pub runs : RunsKeepWellFormed
  pub determined : StepsAreDetermined
  pub order : OrderMeansNothing
  pub refusals : RefusalChangesNothing
  pub cut : ChunksAreCutOffTheFront
  pub aligned : LiveAddressesAreAligned
  pub one_block : LiveAddressHasOneBlock
  pub disjoint : PayloadsAreDisjoint
  pub in_one_chunk : PayloadLiesInOneChunk
  pub allocated_size : AllocationHasSize
  pub reallocated_size : ReallocationHasSize
  pub room : RoomIsFound
  pub pool_has_room : PoolHasRoom
  pub answers : AllocationAnswers
  pub refused : RefusedWithoutReach
  pub chosen : ChoiceIsFirstOfLeast
  pub idle : IdleChunkIsOneRange
  pub chunks_stay : ChunksStay
  pub others_stay : OtherPayloadsStay
  pub handed_out : HandedOutIsNew
  pub moved : ReallocatedIsLive
  pub live_stays : LiveStays
  pub released : ReleasedIsNotLive
  pub filled : FilledHasBytes
  pub fill_leaves : FillLeavesOthers
  pub release_leaves : DeallocationLeavesOthers
  pub inserted_range : InsertedChunksLieInRange
  pub was_used : UsedWasUsed
  pub similar : SimilarStatesAgree
  pub each_call : EachCallAnswers
  pub kept_bytes : ReallocationKeepsBytes
  pub in_block : PayloadIsInBlock
  pub callers : CallersSeeMap
  pub idle_room : IdleChunkHasRoom
  pub fill_similar : FillIsSimilar
  pub removal : RemovalLeavesOthers
  pub without_move : UnmovedIsReallocated

-- the laws of the reference model that asks a source for memory, by name
pub record SourceLaws : Type 0 where
  pub flex_callers : FlexCallersSeeMap
  pub flex_empty : FlexEmptyIsWellFormed
  pub flex_growth : GrowthKeepsWellFormed
  pub flex_room : GrowthHasRoom
  pub flex_steps : FlexStepsKeepWellFormed
  pub flex_runs : FlexRunsKeepWellFormed
  pub flex_in_runs : FlexRunsAreSteps
  pub flex_as_runs : FlexRunsAreRuns
  pub flex_map : FlexStepsChangeMap
  pub flex_map_runs : FlexRunsChangeMap
  pub flex_apart : FlexPayloadsAreApart
  pub flex_allocated_size : FlexAllocationHasSize
  pub flex_reallocated_size : FlexReallocationHasSize
  pub flex_kept_bytes : FlexReallocationKeepsBytes
  pub flex_others_stay : FlexOtherPayloadsStay
  pub flex_was_used : FlexUsedWasUsed
  pub flex_others_stay_runs : FlexOthersStayInRuns
  pub flex_was_used_runs : FlexUsedWasUsedInRuns
  pub flex_similar : FlexSimilarStatesAgree
  pub flex_similar_runs : FlexSimilarRunsAgree
  pub flex_each_call : FlexEachCallAnswers
  pub each_goes_back : EachGoesBack
