-- Lists of a heap's steps, whoever makes them.
use Rattle.std.specs.Prelude.{◌≡◌, ◌⊎◌, ℕ, Bool, List, [], ◌∷◌, Result, Ok, Err}
use Rattle.rlsf_base.specs.declared.memory.layout.Layout.{Layout}
use Rattle.rlsf_base.specs.Addr.{at}
use Rattle.rlsf_model.specs.Lists.{IsIn}
use Rattle.rlsf_model_global.specs.declared.error.GlobalError.{GlobalError}
use Rattle.rlsf_model_global.specs.Heap.{Heap}
use Rattle.rlsf_model_global.specs.Moves.{HeapReallocates, HeapReallocatesAs, HeapReallocatesThere}
use Rattle.rlsf_model_global.specs.Steps.{Done, HeapAllocates, HeapDeallocates, HeapDeallocatesAs, HeapReads, HeapUsable, HeapWrites, Placed}

-- A call with its reply. A payload is allocated, or deallocated, with a layout or without. It gets another size with a layout, by the
-- reference model if that is enabled, or another layout, or another size without a move. Its bytes from an offset on are read into a
-- lent slice, which leaves something there, or written. Its usable length is returned
pub data Step : Type 0 where
  allocate : Layout → Placed → Step
  deallocate : ℕ → Done → Step
  deallocate_as : ℕ → Layout → Done → Step
  reallocate_as : Bool → ℕ → Layout → ℕ → Placed → Step
  reallocate : ℕ → Layout → Placed → Step
  reallocate_there : ℕ → Layout → ℕ → Placed → Step
  read : ℕ → ℕ → List ℕ → Done → List ℕ → Step
  write : ℕ → ℕ → List ℕ → Done → Step
  usable : ℕ → Result ℕ GlobalError → Step

-- a step leads from one heap to another
abbrev pub LeadsTo : Heap → Step → Heap → Type 0
LeadsTo h (allocate layout result) g = HeapAllocates h layout result g
LeadsTo h (deallocate addr result) g = HeapDeallocates h addr result g
LeadsTo h (deallocate_as addr layout result) g = HeapDeallocatesAs h addr layout result g
LeadsTo h (reallocate_as enabled addr layout new_size result) g = HeapReallocatesAs enabled h addr layout new_size result g
LeadsTo h (reallocate addr wanted result) g = HeapReallocates h addr wanted result g
LeadsTo h (reallocate_there addr layout new_size result) g = HeapReallocatesThere h addr layout new_size result g
LeadsTo h (read addr offset lent result left) g = HeapReads h addr offset lent result left × (g ≡ h)
LeadsTo h (write addr offset bytes result) g = HeapWrites h addr offset bytes result g
LeadsTo h (usable addr result) g = HeapUsable h addr result × (g ≡ h)

-- the answer is the address
abbrev pub IsPlacedAt : Placed → ℕ → Type 0
IsPlacedAt (Ok to) a = at to ≡ a
IsPlacedAt (Err e) a = ⊥

-- the step names the address, in its call or in its reply
abbrev pub Names : Step → ℕ → Type 0
Names (allocate layout result) a = IsPlacedAt result a
Names (deallocate addr result) a = addr ≡ a
Names (deallocate_as addr layout result) a = addr ≡ a
Names (reallocate_as enabled addr layout new_size result) a = (addr ≡ a) ⊎ IsPlacedAt result a
Names (reallocate addr wanted result) a = (addr ≡ a) ⊎ IsPlacedAt result a
Names (reallocate_there addr layout new_size result) a = (addr ≡ a) ⊎ IsPlacedAt result a
Names (read addr offset lent result left) a = addr ≡ a
Names (write addr offset bytes result) a = addr ≡ a
Names (usable addr result) a = addr ≡ a

-- none of the steps names the address
abbrev pub NoneNames : List Step → ℕ → Type 0
NoneNames steps a = (s : Step) → IsIn s steps → Names s a → ⊥

-- steps, one after another, lead from one heap to another
abbrev pub IsHistory : Heap → List Step → Heap → Type 0
IsHistory h [] g = g ≡ h
IsHistory h (s ∷ steps) g = (m : Heap) × LeadsTo h s m × IsHistory m steps g
