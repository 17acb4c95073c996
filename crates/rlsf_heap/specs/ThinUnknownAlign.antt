-- Reallocation of a payload whose alignment its caller doesn't know.
use Rattle.std.specs.Prelude.{◌≡◌, ◌≢◌, ℕ, ◌+◌, ◌≤◌, List, ◌∷◌, [], ◌++◌, set, true, false, Option, Some, None, IsOk, Result, MatchResult}
use Rattle.rlsf_base.specs.Ledger.{Entry, Extent, entry_of, extent}
use Rattle.rlsf_model.specs.Callers.{align_at}
use Rattle.rlsf_model.specs.NoMove.{ReallocatesUnmovedBy, unmoved_plan}
use Rattle.rlsf_model.specs.Reallocate.{HasRoomToStay, Plan}
use Rattle.rlsf_model.specs.Sized.{IsSizedFor, live_count}
use Rattle.rlsf_model.specs.State.{State, Used, Holds}
use Rattle.rlsf_heap.specs.declared.thin.ThinPayload.{ThinPayload}
use Rattle.rlsf_heap.specs.Frame.{KeepsAllBounds}
use Rattle.rlsf_heap.specs.Heap.{HeapView, IsWritten, PayloadView}
use Rattle.rlsf_heap.specs.Replies.{IsRefused, IsResized, WithinBounds}
use Rattle.rlsf_heap.specs.ThinReplies.{LeavesOthers, MovesElsewhere}

-- within bounds that include the size and both alignments, the state after is sized for what the state before was sized for
abbrev pub StaysSized : ℕ → ℕ → ℕ → ℕ → State → State → Type 0
StaysSized sllen size from to s t = (count most wide : ℕ) → IsSizedFor sllen count most wide s → from ≤ wide → size ≤ most → to ≤ wide → IsSizedFor sllen count most wide t

-- the entries of a ledger, once a ticket is redeemed and one of another length is issued, for the same address and alignment
abbrev pub renewed_entries : List Entry → ℕ → Extent → ℕ → List Entry
renewed_entries es key shown len = set es key (entry_of shown false) ++ entry_of (extent shown.addr len shown.align) true ∷ []

-- by the plan that leaves the payload where it is, if there is one; its alignment stays. Else the payload moves into a new one of the
-- alignment that is passed, and this is refused exactly where an allocation is
abbrev pub StaysOrMovesBy : ℕ → State → Used → ℕ → ℕ → Option Plan → Option ℕ → State → Type 0
StaysOrMovesBy sllen s u size align (Some p) reply t = ReallocatesUnmovedBy s u (Some p) reply t
StaysOrMovesBy sllen s u size align None reply t = MovesElsewhere sllen s u.payload size align reply t

-- the used block at the address gets another size
pub record StaysOrMoves (sllen : ℕ) (s : State) (addr size align : ℕ) (reply : Option ℕ) (t : State) : Type 0 where
  pub block : Used
  pub holds : Holds s addr block
  pub step : StaysOrMovesBy sllen s block size align (unmoved_plan s block size) reply t

-- what a payload is that has another size at its address, whatever its alignment is
pub record IsResizedThere (before after : HeapView) (addr size : ℕ) (was p : PayloadView) : Type 0 where
  -- it has the size, and its alignment
  pub resized : IsResized before after size was.align was p
  -- it is where it was
  pub start : p.start ≡ addr
  -- it was live
  pub live : align_at before.state addr ≡ Some was.align
  -- the same payloads are live, with their alignments
  pub aligns : align_at after.state ≡ align_at before.state

-- a payload that has no room for another size at its address
pub record IsRefusedThere (before after : HeapView) (sllen addr : ℕ) (was p : PayloadView) : Type 0 where
  -- it is as it was
  pub refused : IsRefused before after addr was.align was p
  -- it was live
  pub live : align_at before.state addr ≡ Some was.align
  -- the heap is sized for all that it was sized for
  pub sized : KeepsAllBounds sllen before.state after.state
  -- a refusal costs few word accesses
  pub touches : after.memory.touches ≤ before.memory.touches + 7

-- where the bytes of a payload suffice, or those with the free block behind it, this is so
pub record IfBytesSuffice (s : State) (addr size len : ℕ) (is : Type 0) : Type 0 where
  -- its own bytes suffice
  pub enough : size ≤ len → is
  -- those with the free block behind it suffice
  pub stays : HasRoomToStay s addr size → is

-- what a payload is whose size changed, whatever its alignment was
pub record IsResizedAny (before after : HeapView) (addr size align : ℕ) (was p : PayloadView) : Type 0 where
  -- it has the size
  pub resized : IsResized before after size p.align was p
  -- all its bytes are here
  pub written : IsWritten p
  -- the other payloads are left
  pub others : LeavesOthers before.state after.state addr p.start
  -- where it stayed, it has its alignment
  pub there : p.start ≡ addr → p.align ≡ was.align
  -- where it moved, it has the alignment that was passed
  pub moved : p.start ≢ addr → p.align ≡ align
  -- and none is live where it was
  pub gone : p.start ≢ addr → align_at after.state addr ≡ None
  -- it was live
  pub live : align_at before.state addr ≡ Some was.align

-- a payload whose size didn't change, whatever its alignment was
pub record IsRefusedAny (before after : HeapView) (addr : ℕ) (was p : PayloadView) : Type 0 where
  -- it is as it was
  pub refused : IsRefused before after addr was.align was p
  -- it was live
  pub live : align_at before.state addr ≡ Some was.align

-- when such a call isn't refused, and when the payload stays at its address
pub record HasRoomAny (sllen : ℕ) (s : State) (addr size align len : ℕ) (r : Result ThinPayload ThinPayload) : Type 0 where
  -- within bounds, it isn't refused
  pub fits : WithinBounds sllen s size align (IsOk r)
  -- where there is room, the payload stays
  pub there : IfBytesSuffice s addr size len (MatchResult r (λ p. p.of.start ≡ addr) (λ p. ⊥))

-- such a call keeps bounds that include both alignments, and the number of payloads
pub record KeepsSizedAny (sllen : ℕ) (before after : State) (size from to : ℕ) : Type 0 where
  -- within bounds that include the size and both alignments, it stays sized for them
  pub sized : StaysSized sllen size from to before after
  -- as many payloads are live
  pub count : live_count after ≡ live_count before
