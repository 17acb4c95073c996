-- What the reallocations do to a heap and its payloads.
use Rattle.std.specs.Prelude.{◌≡◌, ◌≢◌, ℕ, ◌<◌, ◌≤◌, length, None}
use Rattle.rlsf_base.specs.Layout.{IsLayout}
use Rattle.rlsf_model.specs.Callers.{align_at}
use Rattle.rlsf_model.specs.NoMove.{ReallocatesWithoutMove}
use Rattle.rlsf_model.specs.Reallocate.{Keeps, Reallocates}
use Rattle.rlsf_model.specs.Sized.{live_count}
use Rattle.rlsf_model.specs.State.{AreAlike, filled}
use Rattle.rlsf_heap.specs.Heap.{HeapView, IsWritten, PayloadView}
use Rattle.rlsf_heap.specs.Thin.{reply_of}
use Rattle.rlsf_heap.specs.ThinUnknownAlign.{StaysOrMoves}
use Rattle.rlsf_malloc_calls.specs.Calls.{AllocatesPayload, IsPayloadAt, IsSameHeap, IsSized, aligned_for}

-- a payload is as it was: at its address, with its bytes
pub record IsPayloadKept (p q : PayloadView) : Type 0 where
  pub heap : q.identity ≡ p.identity
  pub start : q.start ≡ p.start
  pub align : q.align ≡ p.align
  pub bytes : q.bytes ≡ p.bytes
  pub written : IsWritten q

-- a payload p became q, of another size, at its address or at one where none was. As many of its first bytes as both have are kept. If it
-- moved, no payload is at its old address
pub record IsPayloadResized (before : HeapView) (p : PayloadView) (size align : ℕ) (q : PayloadView) (after : HeapView) : Type 0 where
  pub at : IsPayloadAt after q.start q
  pub sized : IsSized size align q after
  pub held : Keeps p.bytes q.bytes
  pub new : q.start ≢ p.start → align_at before.state q.start ≡ None
  pub gone : q.start ≢ p.start → align_at after.state p.start ≡ None
  pub aligns : (a : ℕ) → a ≢ p.start → a ≢ q.start → align_at after.state a ≡ align_at before.state a

-- the payload is as it was, and so are all others
pub record IsResizeRefused (before : HeapView) (p q : PayloadView) (after : HeapView) : Type 0 where
  pub kept : IsPayloadKept p q
  pub alike : AreAlike before.state after.state
  pub aligns : align_at after.state ≡ align_at before.state

-- a reallocation of a payload of this alignment: 0 is returned exactly where there is no such layout or the model refuses it
pub record Resizes (sllen : ℕ) (before : HeapView) (p : PayloadView) (size align to : ℕ) (q : PayloadView) (after : HeapView) : Type 0 where
  pub no_layout : (IsLayout size align → ⊥) → to ≡ 0
  pub step : IsLayout size align → Reallocates sllen (filled before.state p.start p.bytes) p.start size (reply_of to) after.state
  pub heap : IsSameHeap before after
  pub at : to ≢ 0 → q.start ≡ to
  pub resized : to ≢ 0 → IsPayloadResized before p size align q after
  pub refused : to ≡ 0 → IsResizeRefused before p q after
  pub count : live_count after.state ≡ live_count before.state

-- a reallocation of a payload of a wide alignment, which isn't known: it stays at its address, with its alignment, if the bytes of its block
-- and of a free block behind it suffice, so also if its own do. Else it moves into a payload of the alignment 16. 0 is returned exactly where
-- there is no such layout or an allocation is refused
pub record ResizesWide (sllen : ℕ) (before : HeapView) (p : PayloadView) (size to : ℕ) (q : PayloadView) (after : HeapView) : Type 0 where
  pub stays : IsLayout size 16 → size ≤ length p.bytes → to ≡ p.start
  pub no_layout : (IsLayout size 16 → ⊥) → to ≡ 0
  pub step : IsLayout size 16 → StaysOrMoves sllen (filled before.state p.start p.bytes) p.start size 16 (reply_of to) after.state
  pub heap : IsSameHeap before after
  pub at : to ≢ 0 → q.start ≡ to
  pub there : to ≡ p.start → q.align ≡ p.align
  pub moved : to ≢ 0 → to ≢ p.start → q.align ≡ 16
  pub resized : to ≢ 0 → IsPayloadResized before p size q.align q after
  pub refused : to ≡ 0 → IsResizeRefused before p q after
  pub count : live_count after.state ≡ live_count before.state

-- a reallocation, where the address 0 allocates
pub record ResizesAny (sllen : ℕ) (before : HeapView) (addr : ℕ) (p : PayloadView) (size to : ℕ) (q : PayloadView) (after : HeapView) : Type 0 where
  pub fresh : addr ≡ 0 → (q.start ≡ to) × AllocatesPayload sllen before size 16 q after
  pub narrow : addr ≢ 0 → p.align ≡ 16 → Resizes sllen before p size 16 to q after
  pub wide : addr ≢ 0 → 16 < p.align → ResizesWide sllen before p size to q after

-- a reallocation of a payload of a known alignment, where the address 0 allocates
pub record ResizesAligned (sllen : ℕ) (before : HeapView) (addr : ℕ) (p : PayloadView) (size align to : ℕ) (q : PayloadView) (after : HeapView) : Type 0 where
  pub fresh : addr ≡ 0 → (q.start ≡ to) × AllocatesPayload sllen before size (aligned_for align) q after
  pub known : addr ≢ 0 → Resizes sllen before p size (aligned_for align) to q after

-- a reallocation without a move of a payload of any alignment, which it keeps: 0 is returned exactly where there is no such layout or the
-- model refuses it, and not where the payload's own bytes suffice
pub record ResizesThere (before : HeapView) (p : PayloadView) (size to : ℕ) (q : PayloadView) (after : HeapView) : Type 0 where
  pub stays : IsLayout size 16 → size ≤ length p.bytes → to ≡ p.start
  pub there : q.start ≡ p.start
  pub at : to ≢ 0 → to ≡ p.start
  pub no_layout : (IsLayout size 16 → ⊥) → to ≡ 0
  pub step : IsLayout size 16 → ReallocatesWithoutMove (filled before.state p.start p.bytes) p.start size (reply_of to) after.state
  pub heap : IsSameHeap before after
  pub resized : to ≢ 0 → IsPayloadResized before p size p.align q after
  pub refused : to ≡ 0 → IsResizeRefused before p q after
  pub count : live_count after.state ≡ live_count before.state

-- a reallocation without a move, where the address 0 does nothing
pub record ResizesInPlace (before : HeapView) (addr : ℕ) (p : PayloadView) (size to : ℕ) (q : PayloadView) (after : HeapView) : Type 0 where
  pub nothing : addr ≡ 0 → (to ≡ 0) × (q ≡ p) × (after ≡ before)
  pub resized : addr ≢ 0 → ResizesThere before p size to q after
