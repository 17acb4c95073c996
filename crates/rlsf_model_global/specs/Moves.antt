-- The steps of a heap in which a payload gets another size.
use Rattle.std.specs.Prelude.{◌≡◌, ℕ, ◌==◌, ◌&&◌, Bool, true, false, List, length, min, Option, Some, None, Ok, Err, MatchBool}
use Rattle.rlsf_base.specs.declared.memory.layout.Layout.{Layout}
use Rattle.rlsf_base.specs.Addr.{at}
use Rattle.rlsf_model.specs.Callers.{bytes_at, copied_over}
use Rattle.rlsf_model.specs.FlexReallocate.{FlexReallocates}
use Rattle.rlsf_model.specs.FlexState.{FlexState, with_machine}
use Rattle.rlsf_model.specs.NoMove.{ReallocatesWithoutMove}
use Rattle.rlsf_model.specs.Note.{LeadsBy, Note}
use Rattle.rlsf_model.specs.Release.{Deallocates}
use Rattle.rlsf_model.specs.Run.{Fills}
use Rattle.rlsf_model.specs.State.{State}
use Rattle.rlsf_model_global.specs.declared.error.GlobalError.TheVariants.{NoRoom, UnknownAddress, WrongLayout}
use Rattle.rlsf_model_global.specs.Cursor.{PageCursor, PageLeads, terms_of}
use Rattle.rlsf_model_global.specs.Heap.{Heap, with_state}
use Rattle.rlsf_model_global.specs.Rows.{Row, put, row_at, without_row}
use Rattle.rlsf_model_global.specs.Steps.{Placed, Takes}

-- a payload is allocated while an old one is live, gets its first bytes, and the old one is deallocated
pub record Replaces (h : Heap) (addr keep size align to : ℕ) (flex : FlexState) (source : PageCursor) : Type 0 where
  pub meanwhile : FlexState
  pub takes : Takes h size align (Some to) meanwhile source
  pub copied : State
  pub copies : Fills meanwhile.machine to (copied_over meanwhile.machine addr to keep) copied
  pub freed : State
  pub frees : Deallocates copied addr freed
  pub after : flex ≡ with_machine meanwhile freed

-- the payload moves into another, with an entry for it in the place of the old one's; where there is no room and no memory came, nothing
-- changes
abbrev pub HeapMovesAway : Heap → ℕ → ℕ → Layout → Placed → Heap → Type 0
HeapMovesAway h addr keep wanted (Ok to) g = Replaces h addr keep wanted.size wanted.align (at to) g.flex g.source × (g.asked ≡ put (to, wanted) (without_row addr h.asked))
HeapMovesAway h addr keep wanted (Err NoRoom) g = Takes h wanted.size wanted.align None h.flex h.source × (g ≡ h)
HeapMovesAway h addr keep wanted (Err e) g = ⊥

-- the payload gets another size in place, and its entry another layout; where the bytes there don't suffice, nothing changes
abbrev pub HeapResizesThere : Heap → ℕ → Layout → Placed → Heap → Type 0
HeapResizesThere h addr wanted (Ok to) g =
    (m : State) × ReallocatesWithoutMove h.flex.machine addr wanted.size (Some (at to)) m × (g ≡ with_state h m (put (to, wanted) (without_row addr h.asked)))
HeapResizesThere h addr wanted (Err NoRoom) g = ReallocatesWithoutMove h.flex.machine addr wanted.size None h.flex.machine × (g ≡ h)
HeapResizesThere h addr wanted (Err e) g = ⊥

-- The payload of an entry gets another size: by the reference model, whose questions lead the cursor on, or, where that isn't enabled, in a new
-- payload. It has an entry in the place of the old one's; where there is no room and no memory came, nothing changes
abbrev pub ReallocatesTo : Bool → Heap → ℕ → Layout → Layout → Placed → Heap → Type 0
ReallocatesTo true h addr old wanted (Ok to) g =
    ((notes : List Note) × FlexReallocates 64 64 (terms_of h.source) h.flex addr wanted.size (Some (at to)) notes g.flex × LeadsBy PageLeads h.source notes g.source)
    × (g.asked ≡ put (to, wanted) (without_row addr h.asked))
ReallocatesTo true h addr old wanted (Err NoRoom) g =
    ((notes : List Note) × FlexReallocates 64 64 (terms_of h.source) h.flex addr wanted.size None notes h.flex × LeadsBy PageLeads h.source notes h.source) × (g ≡ h)
ReallocatesTo true h addr old wanted (Err e) g = ⊥
ReallocatesTo false h addr old wanted result g = HeapMovesAway h addr (min old.size wanted.size) wanted result g

-- the entry decides: none, or one of another layout, is refused; else the step is made with a layout of the new size and the old alignment
abbrev pub ReallocatesAsAt : Bool → Heap → ℕ → Layout → ℕ → Option Row → Placed → Heap → Type 0
ReallocatesAsAt enabled h addr layout new_size None result g = (result ≡ Err UnknownAddress) × (g ≡ h)
ReallocatesAsAt enabled h addr layout new_size (Some row) result g =
    MatchBool ((row.1.size == layout.size) && (row.1.align == layout.align))
    ((wanted : Layout) × (wanted.size ≡ new_size) × (wanted.align ≡ layout.align) × ReallocatesTo enabled h addr layout wanted result g)
    ((result ≡ Err WrongLayout) × (g ≡ h))

-- another size for a payload of a layout
abbrev pub HeapReallocatesAs : Bool → Heap → ℕ → Layout → ℕ → Placed → Heap → Type 0
HeapReallocatesAs enabled h addr layout new_size result g = ReallocatesAsAt enabled h addr layout new_size (row_at addr h.asked) result g

-- the entry decides: none is refused; else the payload moves, with as many of its first bytes as both sizes have
abbrev pub ReallocatesAt : Heap → ℕ → Layout → Option Row → Placed → Heap → Type 0
ReallocatesAt h addr wanted None result g = (result ≡ Err UnknownAddress) × (g ≡ h)
ReallocatesAt h addr wanted (Some row) result g = HeapMovesAway h addr (min wanted.size (length (bytes_at h.flex.machine addr))) wanted result g

-- another layout for a payload
abbrev pub HeapReallocates : Heap → ℕ → Layout → Placed → Heap → Type 0
HeapReallocates h addr wanted result g = ReallocatesAt h addr wanted (row_at addr h.asked) result g

-- the entry decides: none, or one of another layout, is refused; else the step is made with a layout of the new size and the old alignment
abbrev pub ReallocatesThereAt : Heap → ℕ → Layout → ℕ → Option Row → Placed → Heap → Type 0
ReallocatesThereAt h addr layout new_size None result g = (result ≡ Err UnknownAddress) × (g ≡ h)
ReallocatesThereAt h addr layout new_size (Some row) result g =
    MatchBool ((row.1.size == layout.size) && (row.1.align == layout.align))
    ((wanted : Layout) × (wanted.size ≡ new_size) × (wanted.align ≡ layout.align) × HeapResizesThere h addr wanted result g)
    ((result ≡ Err WrongLayout) × (g ≡ h))

-- another size for a payload of a layout, in place
abbrev pub HeapReallocatesThere : Heap → ℕ → Layout → ℕ → Placed → Heap → Type 0
HeapReallocatesThere h addr layout new_size result g = ReallocatesThereAt h addr layout new_size (row_at addr h.asked) result g
