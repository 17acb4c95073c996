-- A used block gets another size, in place or at another place.
use Rattle.std.specs.Prelude.{◌≡◌, ◌≢◌, ℕ, ◌+◌, ◌-◌, ◌<◌, ◌≤◌, List, ◌∷◌, ◌++◌, length, Option, None, Some, IfSome, MatchOption, find}
use Rattle.std.specs.Int.{next_multiple_of}
use Rattle.std.specs.Option.{option_map_or}
use Rattle.rlsf_base.specs.declared.memory.layout.Layout.{Layout}
use Rattle.rlsf_base.specs.declared.memory.range.Range.{Range}
use Rattle.rlsf_base.specs.Range.{end_of, range_at, LiesIn}
use Rattle.rlsf_base.specs.OpenSpace.{IsHere, IsOwned}
use Rattle.rlsf_base.specs.Space.{Space, bytes_in, word_at}
use Rattle.rlsf_model.specs.Allocate.{Allocates, rest_behind}
use Rattle.rlsf_model.specs.Join.{starts_at}
use Rattle.rlsf_model.specs.Lists.{IsIn}
use Rattle.rlsf_model.specs.NoMove.{unmoved_plan}
use Rattle.rlsf_model.specs.Reallocate.{MovesAway, Plan, ReallocatesBy, Replans, in_place, into_previous, plan}
use Rattle.rlsf_model.specs.State.{State, Used, between, usable}
use Rattle.rlsf_model.specs.WellFormed.{coverage, itself, IsFree}
use Rattle.rlsf_model.specs.Payload.{block_for}
use Rattle.rlsf_blocks.specs.Spare.{KeepsSpare}
use Rattle.rlsf_blocks.specs.StandsFor.{Contents, contents, StandsFor}
use Rattle.rlsf_blocks.specs.Steps.Standing.{StepsTo}
use Rattle.rlsf_table.specs.FreeTable.{IsFreeTable}
use Rattle.rlsf_table.specs.Rewrites.{Rewrites}
use Rattle.rlsf_blocks.specs.Steps.Touched.{Touched}
use Rattle.rlsf_table.specs.Table.{Table, HasTable}

-- a used block of the state begins at `block`, and its caller has `payload`, by that alignment
pub record IsUsedAt (s : State) (u : Used) (block payload align : ℕ) : Type 0 where
  pub is_used : IsIn u s.used
  pub start : u.block.start ≡ block
  pub caller : u.payload ≡ payload
  pub alignment : u.align ≡ align

-- this is true of the used block at `block` whose caller has `payload`, by the layout's alignment, in each state that memory and table represent
abbrev pub AtEachPayload : ℕ → ℕ → Space → Table → ℕ → ℕ → Layout → (State → Used → Type 0) → Type 0
AtEachPayload fllen sllen m t block payload layout P = (s : State) (u : Used) → StandsFor fllen sllen (contents m t) s → IsUsedAt s u block payload layout.align → P s u

-- this is true of that block whatever the payload's alignment
abbrev pub AtEachAligned : ℕ → ℕ → Space → Table → ℕ → ℕ → (State → Used → Type 0) → Type 0
AtEachAligned fllen sllen m t block payload P = (s : State) (u : Used) → StandsFor fllen sllen (contents m t) s → IsUsedAt s u block payload u.align → P s u

-- the same where it is too short for that size
abbrev pub AtEachTooShort : ℕ → ℕ → Space → Table → ℕ → ℕ → ℕ → (State → Used → Type 0) → Type 0
AtEachTooShort fllen sllen m t block payload size P = AtEachAligned fllen sllen m t block payload (λ s u. in_place s u size ≡ None → P s u)

-- the same where its usable bytes are here
abbrev pub AtEachTooShortHere : ℕ → ℕ → Space → Table → ℕ → ℕ → ℕ → (State → Used → Type 0) → Type 0
AtEachTooShortHere fllen sllen m t block payload size P = AtEachTooShort fllen sllen m t block payload size (λ s u. IsHere m (usable u) → P s u)

-- some state that memory and table represent has such a block, too short for that size, and its usable bytes are here
abbrev pub HasTooShortHere : ℕ → ℕ → Space → Table → ℕ → ℕ → ℕ → Type 0
HasTooShortHere fllen sllen m t block payload size = (s : State) × (u : Used) × StandsFor fllen sllen (contents m t) s × IsUsedAt s u block payload u.align
    × (in_place s u size ≡ None) × IsHere m (usable u)

-- this is true of that block, by the layout's alignment, where it is too short for the layout
abbrev pub AtEachShort : ℕ → ℕ → Space → Table → ℕ → ℕ → Layout → (State → Used → Type 0) → Type 0
AtEachShort fllen sllen m t block payload layout P = (s : State) (u : Used) → StandsFor fllen sllen (contents m t) s
    → IsUsedAt s u block payload layout.align → in_place s u layout.size ≡ None → P s u

-- the same where its usable bytes are here
abbrev pub AtEachShortHere : ℕ → ℕ → Space → Table → ℕ → ℕ → Layout → (State → Used → Type 0) → Type 0
AtEachShortHere fllen sllen m t block payload layout P = AtEachShort fllen sllen m t block payload layout (λ s u. IsHere m (usable u) → P s u)

-- some state that memory and table represent has such a block, too short for the layout, and its usable bytes are here
abbrev pub HasShortHere : ℕ → ℕ → Space → Table → ℕ → ℕ → Layout → Type 0
HasShortHere fllen sllen m t block payload layout = (s : State) × (u : Used) × StandsFor fllen sllen (contents m t) s
    × IsUsedAt s u block payload layout.align × (in_place s u layout.size ≡ None) × IsHere m (usable u)

-- this is true of that block, by the layout's alignment, where it can't have the layout's size without moving
abbrev pub AtEachMoving : ℕ → ℕ → Space → Table → ℕ → ℕ → Layout → (State → Used → Type 0) → Type 0
AtEachMoving fllen sllen m t block payload layout P = AtEachPayload fllen sllen m t block payload layout (λ s u. unmoved_plan s u layout.size ≡ None → P s u)

-- the same where its usable bytes are here
abbrev pub AtEachMovingHere : ℕ → ℕ → Space → Table → ℕ → ℕ → Layout → (State → Used → Type 0) → Type 0
AtEachMovingHere fllen sllen m t block payload layout P = AtEachMoving fllen sllen m t block payload layout (λ s u. IsHere m (usable u) → P s u)

-- some state that memory and table represent has such a block, and its usable bytes are here
abbrev pub HasMovingHere : ℕ → ℕ → Space → Table → ℕ → ℕ → Layout → Type 0
HasMovingHere fllen sllen m t block payload layout = (s : State) × (u : Used) × StandsFor fllen sllen (contents m t) s
    × IsUsedAt s u block payload layout.align × (unmoved_plan s u layout.size ≡ None) × IsHere m (usable u)

-- the bytes of the free range at the address, or 0 if none begins there
abbrev pub IsFreeLength : List Range → ℕ → ℕ → Type 0
IsFreeLength free block len = block + len ≡ option_map_or end_of (find (starts_at block) free) block

-- A range is no block's, and no block of a list has an address of it. A used block of its first `taken` bytes can be made, and a free block of
-- the others: the first 16 bytes, the others, and the first words of another block behind them are the memory's own. What is between may be out
pub record IsSpanRoom (fllen sllen : ℕ) (m : Space) (t : Table) (free : List Range) (r : Range) (taken : ℕ) : Type 0 where
  pub list : IsFreeTable fllen sllen m t free
  pub block : IsFree fllen sllen r
  pub some : 0 < r.start
  pub room : 32 ≤ r.len
  pub lies_in : LiesIn r m.start (length m.bytes)
  pub apart : (a : ℕ) → coverage itself (r ∷ free) a ≤ 1
  pub front : IsOwned m (range_at r.start 16)
  pub rest : IsOwned m (between (r.start + taken) (end_of r))
  pub not_last : end_of r + 16 ≤ m.start + length m.bytes
  pub behind : IsOwned m (range_at (end_of r) 16)

-- this is true of each list of free blocks beside which so many bytes at the address are such a range, and of these bytes
abbrev pub AtEachSpanRoom : ℕ → ℕ → Space → Table → ℕ → ℕ → ℕ → (List Range → Range → Type 0) → Type 0
AtEachSpanRoom fllen sllen m t block len taken P =
    (free : List Range) (r : Range) → r.start ≡ block → r.len ≡ len → IsSpanRoom fllen sllen m t free r taken → P free r

-- the bytes of a used block that are behind its end once its payload has so many bytes are the memory's own
abbrev pub IsOwnedBehind : Space → Used → ℕ → Type 0
IsOwnedBehind m u size = IsOwned m (between (end_of (block_for u.block.start u.payload size)) (end_of u.block))

-- the block of a used payload of that size reaches no farther than its own block and a free block behind it
abbrev pub HasRoomBehind : State → Used → ℕ → Type 0
HasRoomBehind s u size = end_of (block_for u.block.start u.payload size) ≤ option_map_or end_of (find (starts_at (end_of u.block)) s.free) (end_of u.block)

-- this is true of the used block at `block` in each state that memory and table represent, where it has that room, and what is behind its end of that size
-- is the memory's own
abbrev pub AtEachStretched : ℕ → ℕ → Space → Table → ℕ → ℕ → ℕ → (State → Used → Type 0) → Type 0
AtEachStretched fllen sllen m t block payload size P = AtEachAligned fllen sllen m t block payload (λ s u. IsOwnedBehind m u size → HasRoomBehind s u size → P s u)

-- some state that memory and table represent has such a block
abbrev pub HasStretched : ℕ → ℕ → Space → Table → ℕ → ℕ → ℕ → Type 0
HasStretched fllen sllen m t block payload size = (s : State) × (u : Used) × StandsFor fllen sllen (contents m t) s
    × IsUsedAt s u block payload u.align × IsOwnedBehind m u size × HasRoomBehind s u size

-- the numbers are the length of the used block at `block`, and another one, which it gets with the size of its payload
pub record IsStretched (m : Space) (block payload size len taken : ℕ) : Type 0 where
  pub own : len + 1 ≡ word_at m block
  pub wanted : taken ≡ next_multiple_of (payload - block + size) 32
  pub other : taken ≢ len

-- The words after a used block took the front of a span that was no block's. A rest of the span became the newest free block.
-- Behind the first 16 bytes of the front no byte has changed, and the word that names the block before it stays
pub record IsOccupied (fllen sllen : ℕ) (m n : Space) (t : Table) (free : List Range) (span front : Range) : Type 0 where
  pub rewrites : Rewrites m n (Touched free span (end_of span + 8))
  pub size : word_at n span.start ≡ front.len + 1
  pub first : word_at n (span.start + 8) ≡ word_at m (span.start + 8)
  pub behind : word_at n (end_of front + 8) ≡ span.start
  pub rest : (g : Range) → IsIn g (rest_behind front (end_of span)) → (word_at n g.start ≡ g.len) × (word_at n (end_of g + 8) ≡ g.start)
  pub kept : (q : Range) → span.start + 16 ≤ q.start → end_of q ≤ end_of front → bytes_in n q ≡ bytes_in m q
  pub table : HasTable fllen sllen n t (rest_behind front (end_of span) ++ free)

-- a plan for the used block was carried out: it leads to a represented state, and spare bytes are as they were
abbrev pub IsCarriedOut : ℕ → ℕ → Contents → Contents → State → Used → Plan → Type 0
IsCarriedOut fllen sllen v w s u p = (t : State) × Replans s u p p.payload t × StandsFor fllen sllen w t × KeepsSpare v.memory s w.memory t

-- there is a plan, by which the payload lies at the address, and it was carried out
abbrev pub IsPlanned : ℕ → ℕ → Space → Space → Table → State → Used → Option Plan → ℕ → Type 0
IsPlanned fllen sllen m n t s u first addr = (p : Plan) × (first ≡ Some p) × (p.payload ≡ addr) × StepsTo fllen sllen m n t s (Replans s u p p.payload)

-- the payload at the address has the size in place
abbrev pub IsPlannedInPlace : ℕ → ℕ → Space → Space → Table → State → Used → ℕ → ℕ → Type 0
IsPlannedInPlace fllen sllen m n t s u size addr = IsPlanned fllen sllen m n t s u (unmoved_plan s u size) addr

-- if the bytes behind the used block's end of that size are the memory's own and a call returned an address, it is the payload's, and the payload has
-- the size in place
abbrev pub ResizesKept : ℕ → ℕ → Space → Space → Table → State → Used → ℕ → ℕ → Option ℕ → Type 0
ResizesKept fllen sllen m n t s u size addr reply = IsOwnedBehind m u size → IfSome reply (λ to. (to ≡ addr) × IsPlannedInPlace fllen sllen m n t s u size addr)

-- if an address is returned, the payload lies there, in the free block before its own
abbrev pub IsMovedBefore : ℕ → ℕ → Space → Space → Table → State → Used → ℕ → Option ℕ → Type 0
IsMovedBefore fllen sllen m n t s u size reply = IfSome reply (IsPlanned fllen sllen m n t s u (into_previous s u size))

-- a reallocation of the used block, with its reply, leads to a represented state
abbrev pub StepsToReallocated : ℕ → ℕ → Space → Space → Table → State → Used → ℕ → Option ℕ → Type 0
StepsToReallocated fllen sllen m n t s u size reply = StepsTo fllen sllen m n t s (ReallocatesBy sllen s u size (plan s u size) reply)

-- the used block, with another alignment of its payload
abbrev pub realigned : Used → ℕ → Used
realigned u align = record u { align = align }

-- the payload lies in a block that was allocated for it, by the alignment, and its old block is deallocated; or the allocation is refused
abbrev pub IsElsewhere : ℕ → ℕ → Space → Space → Table → State → Used → ℕ → ℕ → Option ℕ → Type 0
IsElsewhere fllen sllen m n t s u size align reply =
    MatchOption reply (Allocates sllen s size align None s) (λ addr. StepsTo fllen sllen m n t s (MovesAway sllen s (realigned u align) size addr))

-- if the usable bytes of the used block were here, as many bytes are here from the returned address on, if one is returned
abbrev pub IsHereStill : Space → Space → Used → Option ℕ → Type 0
IsHereStill m n u reply = IsHere m (usable u) → IfSome reply (λ addr. IsHere n (range_at addr (usable u).len))
