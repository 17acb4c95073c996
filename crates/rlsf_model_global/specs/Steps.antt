-- The steps of a heap, with their replies: allocations, deallocations, reads and writes.
use Rattle.std.specs.Prelude.{◌≡◌, ℕ, ◌+◌, Bool, ◌==◌, ◌&&◌, List, length, take, drop, nat_le, Option, Some, None, Result, Ok, Err, MatchBool}
use Rattle.std.specs.List.{splice}
use Rattle.std.specs.declared.num.NonZeroUsize.{NonZeroUsize}
use Rattle.rlsf_base.specs.declared.memory.layout.Layout.{Layout}
use Rattle.rlsf_base.specs.Addr.{at}
use Rattle.rlsf_model.specs.Callers.{bytes_at}
use Rattle.rlsf_model.specs.FlexAllocate.{FlexAllocates}
use Rattle.rlsf_model.specs.FlexState.{FlexState}
use Rattle.rlsf_model.specs.Note.{LeadsBy, Note}
use Rattle.rlsf_model.specs.Release.{Deallocates}
use Rattle.rlsf_model.specs.Run.{Fills}
use Rattle.rlsf_model.specs.State.{State}
use Rattle.rlsf_model_global.specs.declared.error.GlobalError.{GlobalError}
use Rattle.rlsf_model_global.specs.declared.error.GlobalError.TheVariants.{NoRoom, UnknownAddress, WrongLayout, TableMemory, OutOfRange}
use Rattle.rlsf_model_global.specs.Cursor.{PageCursor, PageLeads, terms_of}
use Rattle.rlsf_model_global.specs.Heap.{Heap, with_state}
use Rattle.rlsf_model_global.specs.Rows.{Row, put, row_at, without_row}

-- the reply of a call that gives no address
abbrev pub Done : Type 0
Done = Result (Unit {0}) GlobalError

-- the reply of a call that gives an address
abbrev pub Placed : Type 0
Placed = Result NonZeroUsize GlobalError

-- the reference model allocates, and its questions lead the cursor on
abbrev pub Takes : Heap → ℕ → ℕ → Option ℕ → FlexState → PageCursor → Type 0
Takes h size align reply flex source = (notes : List Note) × FlexAllocates 64 64 (terms_of h.source) h.flex size align reply notes flex × LeadsBy PageLeads h.source notes source

-- an allocation, with an entry for the new payload; it is refused where there is no room and no memory came, or where the table has
-- no room, and then nothing changes
abbrev pub HeapAllocates : Heap → Layout → Placed → Heap → Type 0
HeapAllocates h layout (Ok addr) g = Takes h layout.size layout.align (Some (at addr)) g.flex g.source × (g.asked ≡ put (addr, layout) h.asked)
HeapAllocates h layout (Err NoRoom) g = Takes h layout.size layout.align None h.flex h.source × (g ≡ h)
HeapAllocates h layout (Err TableMemory) g = g ≡ h
HeapAllocates h layout (Err e) g = ⊥

-- the payload at the address is deallocated, and so is its entry
abbrev pub Releases : Heap → ℕ → Heap → Type 0
Releases h addr g = (m : State) × Deallocates h.flex.machine addr m × (g ≡ with_state h m (without_row addr h.asked))

-- the entry of the address decides: none, and the address is refused
abbrev pub DeallocatesAt : Heap → ℕ → Option Row → Done → Heap → Type 0
DeallocatesAt h addr None result g = (result ≡ Err UnknownAddress) × (g ≡ h)
DeallocatesAt h addr (Some row) result g = (result ≡ Ok tt) × Releases h addr g

-- a deallocation
abbrev pub HeapDeallocates : Heap → ℕ → Done → Heap → Type 0
HeapDeallocates h addr result g = DeallocatesAt h addr (row_at addr h.asked) result g

-- the entry decides: none, or one of another layout, which has another size or another alignment, is refused
abbrev pub DeallocatesAsAt : Heap → ℕ → Layout → Option Row → Done → Heap → Type 0
DeallocatesAsAt h addr layout None result g = (result ≡ Err UnknownAddress) × (g ≡ h)
DeallocatesAsAt h addr layout (Some row) result g =
    MatchBool ((row.1.size == layout.size) && (row.1.align == layout.align)) ((result ≡ Ok tt) × Releases h addr g) ((result ≡ Err WrongLayout) × (g ≡ h))

-- a deallocation of a layout
abbrev pub HeapDeallocatesAs : Heap → ℕ → Layout → Done → Heap → Type 0
HeapDeallocatesAs h addr layout result g = DeallocatesAsAt h addr layout (row_at addr h.asked) result g

-- so many bytes from an offset on are usable at the address
abbrev pub are_usable : Heap → ℕ → ℕ → ℕ → Bool
are_usable h addr offset len = nat_le (offset + len) (length (bytes_at h.flex.machine addr))

-- bytes are written over those of the payload from an offset on
abbrev pub WritesIn : Heap → ℕ → ℕ → List ℕ → Heap → Type 0
WritesIn h addr offset bytes g =
    (m : State) × Fills h.flex.machine addr (splice (bytes_at h.flex.machine addr) offset (offset + length bytes) bytes) m × (g ≡ with_state h m h.asked)

-- the entry decides: none is refused, and bytes that go past the usable ones are
abbrev pub WritesAt : Heap → ℕ → ℕ → List ℕ → Option Row → Done → Heap → Type 0
WritesAt h addr offset bytes None result g = (result ≡ Err UnknownAddress) × (g ≡ h)
WritesAt h addr offset bytes (Some row) result g =
    MatchBool (are_usable h addr offset (length bytes)) ((result ≡ Ok tt) × WritesIn h addr offset bytes g) ((result ≡ Err OutOfRange) × (g ≡ h))

-- a write into a payload
abbrev pub HeapWrites : Heap → ℕ → ℕ → List ℕ → Done → Heap → Type 0
HeapWrites h addr offset bytes result g = WritesAt h addr offset bytes (row_at addr h.asked) result g

-- the entry decides what is left in what was lent: the payload's bytes from an offset on; where it is refused, what was there
abbrev pub ReadsAt : Heap → ℕ → ℕ → List ℕ → Option Row → Done → List ℕ → Type 0
ReadsAt h addr offset lent None result left = (result ≡ Err UnknownAddress) × (left ≡ lent)
ReadsAt h addr offset lent (Some row) result left =
    MatchBool (are_usable h addr offset (length lent)) ((result ≡ Ok tt) × (left ≡ take (length lent) (drop offset (bytes_at h.flex.machine addr))))
    ((result ≡ Err OutOfRange) × (left ≡ lent))

-- a read of a payload into what was lent
abbrev pub HeapReads : Heap → ℕ → ℕ → List ℕ → Done → List ℕ → Type 0
HeapReads h addr offset lent result left = ReadsAt h addr offset lent (row_at addr h.asked) result left

-- the usable length of the payload whose entry this is
abbrev pub UsableAt : Heap → ℕ → Option Row → Result ℕ GlobalError → Type 0
UsableAt h addr None result = result ≡ Err UnknownAddress
UsableAt h addr (Some row) result = result ≡ Ok (length (bytes_at h.flex.machine addr))

-- the usable length of the payload at the address
abbrev pub HeapUsable : Heap → ℕ → Result ℕ GlobalError → Type 0
HeapUsable h addr result = UsableAt h addr (row_at addr h.asked) result
