-- What a heap's steps leave at the addresses that they name.
use Rattle.std.specs.Prelude.{◌≡◌, ◌≢◌, ℕ, ◌+◌, ◌%◌, ◌<◌, ◌≤◌, Bool, List, length, min, take, drop, Some, None, Ok, if◌then◌else◌}
use Rattle.std.specs.List.{splice}
use Rattle.std.specs.declared.num.NonZeroUsize.{NonZeroUsize}
use Rattle.rlsf_base.specs.declared.memory.layout.Layout.{Layout}
use Rattle.rlsf_base.specs.declared.memory.range.Range.{Range}
use Rattle.rlsf_base.specs.Addr.{at}
use Rattle.rlsf_model_global.specs.Heap.{Heap, content_at, layout_at}
use Rattle.rlsf_model_global.specs.History.{LeadsTo, allocate, deallocate, deallocate_as, reallocate, reallocate_as, reallocate_there, read, write}
use Rattle.rlsf_model_global.specs.Standing.{IsHeap}

-- a payload has the requested bytes and less than 32 more, at a multiple of the requested alignment
pub record Serves (h : Heap) (a : ℕ) (layout : Layout) : Type 0 where
  pub enough : layout.size ≤ length (content_at h a)
  pub few : length (content_at h a) < layout.size + 32
  pub aligned : a % layout.align ≡ 0

-- so does each payload of a heap
abbrev pub PayloadsServe : Type 0
PayloadsServe = (memory : Range) (h : Heap) (a : ℕ) (layout : Layout) → IsHeap memory h → layout_at h a ≡ Some layout → Serves h a layout

-- the byte at x is one of the payload at a
abbrev pub HasByte : Heap → ℕ → ℕ → Type 0
HasByte h a x = (a ≤ x) × (x < a + length (content_at h a))

-- no byte is one of two payloads
abbrev pub HeapPayloadsAreApart : Type 0
HeapPayloadsAreApart = (memory : Range) (h : Heap) (a b x : ℕ) → IsHeap memory h → HasByte h a x → HasByte h b x → a ≡ b

-- an allocation leaves a payload of its layout where none was
abbrev pub AllocationLeaves : Type 0
AllocationLeaves = (memory : Range) (h g : Heap) (layout : Layout) (addr : NonZeroUsize) → IsHeap memory h → LeadsTo h (allocate layout (Ok addr)) g
    → (layout_at h (at addr) ≡ None) × (layout_at g (at addr) ≡ Some layout)

-- a deallocation leaves none
abbrev pub DeallocationLeaves : Type 0
DeallocationLeaves = (h g : Heap) (addr : ℕ) (layout : Layout)
    → (LeadsTo h (deallocate addr (Ok tt)) g → layout_at g addr ≡ None) × (LeadsTo h (deallocate_as addr layout (Ok tt)) g → layout_at g addr ≡ None)

-- a write leaves the bytes that it names, and all others of the payload as they were
abbrev pub WriteLeaves : Type 0
WriteLeaves = (memory : Range) (h g : Heap) (addr offset : ℕ) (bytes : List ℕ) → IsHeap memory h → LeadsTo h (write addr offset bytes (Ok tt)) g
    → (content_at g addr ≡ splice (content_at h addr) offset (offset + length bytes) bytes) × (layout_at g addr ≡ layout_at h addr)

-- a read returns the payload's own bytes
abbrev pub ReadTells : Type 0
ReadTells = (h g : Heap) (addr offset : ℕ) (lent left : List ℕ) → LeadsTo h (read addr offset lent (Ok tt) left) g
    → left ≡ take (length lent) (drop offset (content_at h addr))

-- a payload of another layout is at `to`, with the first bytes that it had at `addr`: so many as are kept. If it moved, nothing lived
-- there before, and nothing lives where it was
pub record IsMoved (h g : Heap) (addr to kept : ℕ) (wanted : Layout) : Type 0 where
  pub layout : layout_at g to ≡ Some wanted
  pub bytes : take kept (content_at g to) ≡ take kept (content_at h addr)
  pub new : to ≢ addr → layout_at h to ≡ None
  pub gone : to ≢ addr → layout_at g addr ≡ None

-- as many bytes as the payload has before and after
abbrev pub in_both : Heap → Heap → ℕ → ℕ → ℕ
in_both h g addr to = min (length (content_at h addr)) (length (content_at g to))

-- a layout has the new size and the old alignment, and the payload is of it
abbrev pub IsMovedTo : Heap → Heap → ℕ → ℕ → ℕ → Layout → ℕ → Type 0
IsMovedTo h g addr to kept layout new_size = (wanted : Layout) × (wanted.size ≡ new_size) × (wanted.align ≡ layout.align) × IsMoved h g addr to kept wanted

-- another size for a payload of a layout keeps the bytes that are usable before and after; or, where the reference model isn't enabled to, the bytes
-- that were asked for before and after
abbrev pub ReallocationAsLeaves : Type 0
ReallocationAsLeaves = (memory : Range) (enabled : Bool) (h g : Heap) (addr : ℕ) (layout : Layout) (new_size : ℕ) (to : NonZeroUsize) → IsHeap memory h
    → LeadsTo h (reallocate_as enabled addr layout new_size (Ok to)) g
    → IsMovedTo h g addr (at to) (if enabled then in_both h g addr (at to) else min layout.size new_size) layout new_size

-- another layout keeps the bytes that were usable, up to the new size, and the payload is elsewhere
abbrev pub ReallocationLeaves : Type 0
ReallocationLeaves = (memory : Range) (h g : Heap) (addr : ℕ) (wanted : Layout) (to : NonZeroUsize) → IsHeap memory h → LeadsTo h (reallocate addr wanted (Ok to)) g
    → (at to ≢ addr) × IsMoved h g addr (at to) (min wanted.size (length (content_at h addr))) wanted

-- another size in place keeps its address, and the bytes that are usable before and after
abbrev pub ReallocationThereLeaves : Type 0
ReallocationThereLeaves = (memory : Range) (h g : Heap) (addr : ℕ) (layout : Layout) (new_size : ℕ) (to : NonZeroUsize) → IsHeap memory h
    → LeadsTo h (reallocate_there addr layout new_size (Ok to)) g → (at to ≡ addr) × IsMovedTo h g addr (at to) (in_both h g addr (at to)) layout new_size
