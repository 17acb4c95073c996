-- What the calls do to a heap and its payloads.
use Rattle.std.specs.Prelude.{◌≡◌, ◌≢◌, ℕ, ◌+◌, ◌*◌, ◌%◌, ◌-◌, ◌<◌, ◌≤◌, true, [], length, replicate, nat_lt, Some, None, if◌then◌else◌}
use Rattle.std.specs.Ptr.{Ptr}
use Rattle.rlsf_base.specs.Changes.{left}
use Rattle.rlsf_base.specs.Layout.{IsLayout}
use Rattle.rlsf_base.specs.Piece.{IsFull, Piece, piece_range}
use Rattle.rlsf_base.specs.OpenSpace.{IsAway, IsOwned, home_of, place_in}
use Rattle.rlsf_model_sizes.specs.Rounding.{round32}
use Rattle.rlsf_base.specs.Range.{AreApart, LiesIn, range_at}
use Rattle.rlsf_base.specs.Space.{Space, range_of}
use Rattle.rlsf_base.specs.declared.memory.range.Range.{Range}
use Rattle.rlsf_model.specs.Allocate as machine
use Rattle.rlsf_blocks.specs.Blocks.{walked}
use Rattle.rlsf_model.specs.ChunkRows.{IsRow}
use Rattle.rlsf_model.specs.Callers.{align_at, bytes_at}
use Rattle.rlsf_model.specs.Insert.{Appends, Inserts, IsNext, IsUntouched}
use Rattle.rlsf_model.specs.Release.{Deallocates}
use Rattle.rlsf_model.specs.Remove.{IsIdle, Removes}
use Rattle.rlsf_model.specs.Sized.{live_count}
use Rattle.rlsf_model.specs.State.{empty}
use Rattle.rlsf_heap.specs.Heap.{HeapView, IsLent, IsWritten, PayloadView}
use Rattle.rlsf_heap.specs.Settled.{IsSettled}
use Rattle.rlsf_heap.specs.Thin.{reply_of}

-- each byte of the heap's memory has a value, except those that are out
abbrev pub IsReady : HeapView → Type 0
IsReady v = IsSettled v.memory

-- it is the same heap, whose memory lies where it lay, each byte has a value, and what was lent to it is
pub record IsSameHeap (before after : HeapView) : Type 0 where
  pub identity : after.identity ≡ before.identity
  pub start : after.memory.start ≡ before.memory.start
  pub len : length after.memory.bytes ≡ length before.memory.bytes
  pub ready : IsReady after
  pub lent : after.lent ≡ before.lent
  pub ranges : (r : Range) → IsLent before r → IsLent after r

-- so, but for the bytes of a range, which may be lent to it before or after
pub record IsSameBeside (changed : Range) (before after : HeapView) : Type 0 where
  pub identity : after.identity ≡ before.identity
  pub start : after.memory.start ≡ before.memory.start
  pub len : length after.memory.bytes ≡ length before.memory.bytes
  pub ready : IsReady after
  pub lent : after.lent ≡ before.lent
  pub ranges : (r : Range) → IsLent before r → AreApart changed r → IsLent after r

-- the payload of a heap at an address: its bytes have values. At the address 0 there is none
pub record IsPayloadAt (v : HeapView) (addr : ℕ) (p : PayloadView) : Type 0 where
  pub start : p.start ≡ addr
  pub heap : addr ≢ 0 → p.identity ≡ v.identity
  pub written : addr ≢ 0 → IsWritten p

-- the alignment of each payload that the calls return is 16 or a wide one, which is above
abbrev pub IsLiveAligned : HeapView → ℕ → Type 0
IsLiveAligned v addr = (align : ℕ) × (align_at v.state addr ≡ Some align) × (16 ≤ align)

-- the alignment of a payload for which `align` was requested
abbrev pub aligned_for : ℕ → ℕ
aligned_for align = if nat_lt align 16 then 16 else align

-- a payload has this size and alignment
pub record IsSized (size align : ℕ) (p : PayloadView) (after : HeapView) : Type 0 where
  pub live : align_at after.state p.start ≡ Some align
  pub requested : p.align ≡ align
  pub aligned : p.start % align ≡ 0
  pub sized : size ≤ length p.bytes
  pub few : length p.bytes < size + 32
  pub long : length p.bytes ≡ length (bytes_at after.state p.start)

-- an allocation: the address 0 is returned exactly where there is no such layout or the model refuses it. The other payloads stay live, with
-- their alignments
pub record AllocatesPayload (sllen : ℕ) (before : HeapView) (size align : ℕ) (p : PayloadView) (after : HeapView) : Type 0 where
  pub no_layout : (IsLayout size align → ⊥) → p.start ≡ 0
  pub step : IsLayout size align → machine.Allocates sllen before.state size align (reply_of p.start) after.state
  pub heap : IsSameHeap before after
  pub at : IsPayloadAt after p.start p
  pub new : p.start ≢ 0 → align_at before.state p.start ≡ None
  pub sized : p.start ≢ 0 → IsSized size align p after
  pub aligns : (a : ℕ) → a ≢ p.start → align_at after.state a ≡ align_at before.state a
  pub count : p.start ≢ 0 → live_count after.state ≡ live_count before.state + 1
  pub chunks : after.state.chunks ≡ before.state.chunks
  pub same : p.start ≡ 0 → after.state ≡ before.state

-- an allocation of `count` times `size` bytes, which are zeros
pub record AllocatesZeroed (sllen : ℕ) (before : HeapView) (count size : ℕ) (p : PayloadView) (after : HeapView) : Type 0 where
  pub allocates : AllocatesPayload sllen before (count * size) 16 p after
  pub zeros : p.start ≢ 0 → p.bytes ≡ replicate (length p.bytes) 0

-- a payload is gone
pub record IsFreed (before : HeapView) (p : PayloadView) (after : HeapView) : Type 0 where
  pub step : Deallocates before.state p.start after.state
  pub live : align_at before.state p.start ≡ Some p.align
  pub gone : align_at after.state p.start ≡ None
  pub count : live_count before.state ≡ live_count after.state + 1
  pub chunks : after.state.chunks ≡ before.state.chunks
  pub aligns : (a : ℕ) → a ≢ p.start → align_at after.state a ≡ align_at before.state a

-- a deallocation, where the address 0 does nothing
pub record Frees (before : HeapView) (addr : ℕ) (p : PayloadView) (after : HeapView) : Type 0 where
  pub heap : IsSameHeap before after
  pub freed : addr ≢ 0 → IsFreed before p after
  pub nothing : addr ≡ 0 → after ≡ before

-- the number of usable bytes of a payload, or 0 for the address 0. Nothing changes
pub record IsUsableSize (before : HeapView) (addr : ℕ) (p : PayloadView) (len : ℕ) (q : PayloadView) (after : HeapView) : Type 0 where
  pub usable : addr ≢ 0 → len ≡ length p.bytes
  pub none : addr ≡ 0 → len ≡ 0
  pub payload : q ≡ p
  pub same : after ≡ before

-- a range is added: as many bytes from its start as its chunks take, or 0 where it makes none
pub record Adds (fllen : ℕ) (before : HeapView) (start len taken : ℕ) (after : HeapView) : Type 0 where
  pub step : Inserts fllen before.state (range_at start len) (reply_of taken) after.state
  pub heap : IsSameBeside (range_at start len) before after
  pub aligns : align_at after.state ≡ align_at before.state
  pub count : live_count after.state ≡ live_count before.state
  pub untouched : (r : Range) → IsUntouched before.state.chunks r → AreApart (range_at start len) r → IsUntouched after.state.chunks r

-- a range is removed, and 1 is returned; or a block of it is used, 0 is returned, and nothing changes
pub record RemovesPool (before : HeapView) (changed r : Range) (removed : ℕ) (after : HeapView) : Type 0 where
  pub step : removed ≢ 0 → IsIdle before.state r × Removes before.state r after.state
  pub one : removed ≢ 0 → removed ≡ 1
  pub gone : removed ≢ 0 → IsUntouched after.state.chunks r
  pub used : removed ≡ 0 → IsIdle before.state r → ⊥
  pub same : removed ≡ 0 → after ≡ before
  pub heap : IsSameBeside changed before after
  pub aligns : align_at after.state ≡ align_at before.state
  pub count : live_count after.state ≡ live_count before.state
  pub untouched : (q : Range) → IsUntouched before.state.chunks q → IsUntouched after.state.chunks q

-- the caller's bytes can be lent to the heap, as this range: they have values, and lie at addresses of the heap's
pub record AreBytesFor (v : HeapView) (start len : ℕ) (p : Piece) : Type 0 where
  pub some : start ≢ 0
  pub range : piece_range p ≡ range_at start len
  pub home : p.home ≡ v.identity.home
  pub full : IsFull p
  pub lent : v.lent ≡ true

-- they can be added: they overlap no pool
pub record CanLend (v : HeapView) (start len : ℕ) (p : Piece) : Type 0 where
  pub bytes : AreBytesFor v start len p
  pub lies : LiesIn (range_at start len) v.memory.start (length v.memory.bytes)
  pub untouched : IsUntouched v.state.chunks (range_at start len)

-- they can be appended: they also begin where a pool ends
pub record CanAppend (v : HeapView) (start len : ℕ) (p : Piece) : Type 0 where
  pub bytes : AreBytesFor v start len p
  pub next : IsNext (range_of v.memory) v.state (range_at start len)

-- these bytes of a heap's addresses are the caller's, with values
pub record IsGivenBack (v : HeapView) (start len : ℕ) (p : Piece) : Type 0 where
  pub home : p.home ≡ v.identity.home
  pub begins : p.start ≡ start
  pub long : length p.bytes ≡ len
  pub full : IsFull p

-- the bytes from an address up to the first multiple of 32
abbrev pub front : ℕ → Range
front start = range_at start (round32 start - start)

-- a range is added: as many bytes from its start as its chunks take, or 0. These are lent to the heap from now on, and the others are the
-- caller's
pub record AddsLent (fllen : ℕ) (before : HeapView) (start len taken : ℕ) (back : Piece) (after : HeapView) : Type 0 where
  pub adds : Adds fllen before start len taken after
  pub few : taken ≤ len
  pub range : IsLent after (range_at start taken)
  pub front : taken ≢ 0 → IsUntouched after.state.chunks (front start)
  pub given : IsGivenBack before (start + taken) (len - taken) back

-- a range is appended to a pool: as many bytes from its start as are taken. These are lent to the heap from now on, and the others are the caller's
pub record AppendsLent (fllen : ℕ) (before : HeapView) (start len taken : ℕ) (back : Piece) (after : HeapView) : Type 0 where
  pub step : Appends fllen before.state (range_at start len) taken after.state
  pub heap : IsSameBeside (range_at start len) before after
  pub aligns : align_at after.state ≡ align_at before.state
  pub count : live_count after.state ≡ live_count before.state
  pub untouched : (r : Range) → IsUntouched before.state.chunks r → AreApart (range_at start len) r → IsUntouched after.state.chunks r
  pub few : taken ≤ len
  pub range : IsLent after (range_at start taken)
  pub given : IsGivenBack before (start + taken) (len - taken) back

-- a range can be removed: it is a pool, or several that follow each other, whose bytes are lent to the heap. The caller gives nothing up
pub record CanRemove (v : HeapView) (start len : ℕ) (none : Piece) : Type 0 where
  pub nothing : none.start ≡ 0
  pub row : IsRow v.state (walked (range_at start len))
  pub front : IsUntouched v.state.chunks (front start)
  pub lies : LiesIn (range_at start len) v.memory.start (length v.memory.bytes)
  pub range : IsLent v (range_at start len)
  pub lent : v.lent ≡ true

-- a range is removed, and 1 is returned: its bytes are the caller's again. Or a block of it is used, 0 is returned, and nothing changes
pub record RemovesLent (before : HeapView) (start len removed : ℕ) (back : Piece) (after : HeapView) : Type 0 where
  pub removes : RemovesPool before (range_at start len) (walked (range_at start len)) removed after
  pub given : removed ≢ 0 → IsGivenBack before start len back
  pub none : removed ≡ 0 → back.start ≡ 0

-- each byte of each range that is lent to the heap is its own
abbrev pub OwnsLent : HeapView → Type 0
OwnsLent v = (r : Range) → IsLent v r → IsOwned v.memory r

-- no byte of a memory is its own
abbrev pub IsAllOut : Space → Type 0
IsAllOut m = m.out ≡ left 0 (length m.bytes) []

-- a heap over a memory, without a payload, to which no range was added
pub record IsOver (m : Space) (v : HeapView) : Type 0 where
  pub memory : v.memory ≡ m
  pub home : v.identity.home ≡ home_of m
  pub state : v.state ≡ empty
  pub untouched : (r : Range) → IsUntouched v.state.chunks r
  pub ready : IsReady v
  pub lent : v.lent ≡ true

-- a heap without a payload, over len addresses from start on, of which it owns no byte, and to which no range was added: the byte at the
-- address start + k is to lie k behind the block
pub record IsFreshHeap (block : Ptr) (start len : ℕ) (v : HeapView) : Type 0 where
  pub lies : (v.memory.view.base.ptr ≡ block) × (place_in v.memory.view start ≡ 0)
  pub begins : v.memory.start ≡ start
  pub long : length v.memory.bytes ≡ len
  pub away : IsAway v.memory (range_of v.memory)
  pub home : v.identity.home ≡ home_of v.memory
  pub state : v.state ≡ empty
  pub untouched : (r : Range) → IsUntouched v.state.chunks r
  pub ready : IsReady v
  pub lent : v.lent ≡ true
