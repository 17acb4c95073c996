-- A heap of one thread, to which other threads return payloads.
use Rattle.std.specs.Prelude.{◌≡◌, ℕ, ◌+◌, ◌*◌, ◌%◌, ◌<◌, ◌≤◌, List, [], ◌∷◌, length, option_to_list, Option, None}
use Rattle.rlsf_model.specs.Allocate.{Allocates}
use Rattle.rlsf_model.specs.Release.{Deallocates}
use Rattle.rlsf_model.specs.Sized.{live_count}
use Rattle.rlsf_heap.specs.Heap.{HeapView, Identity, IsWritten, PayloadView, Steps}
use Rattle.rlsf_heap.specs.Frame.{KeepsAllBounds}
use Rattle.rlsf_heap.specs.Settled.{IsSettled}

-- a list of returned payloads: of which heap they are, and for how many it has room
pub record ReturnsView : Type 0 where
  pub identity : Identity
  pub room : ℕ

-- an owner: its heap, how many payloads may be lent at once, and how many are lent and weren't collected yet
pub record OwnerView : Type 0 where
  pub heap : HeapView
  pub room : ℕ
  pub lent : ℕ

-- payloads were deallocated, one after another, those at these addresses; the last one is the first here
unfoldable pub Deallocated : ℕ → ℕ → List ℕ → HeapView → HeapView → Type 0
Deallocated fllen sllen [] before after = after ≡ before
Deallocated fllen sllen (a ∷ rest) before after =
    (between : HeapView) × Deallocated fllen sllen rest before between × Steps fllen sllen after (Deallocates between.state a)

-- so many payloads were deallocated, one after another
unfoldable pub CollectsBySteps : ℕ → ℕ → HeapView → HeapView → ℕ → Type 0
CollectsBySteps fllen sllen before after count = (addrs : List ℕ) × (length addrs ≡ count) × Deallocated fllen sllen addrs before after

-- so many returned payloads were deallocated
pub record IsCollected (fllen sllen : ℕ) (before after : HeapView) (count : ℕ) : Type 0 where
  -- by steps of the reference model
  pub steps : CollectsBySteps fllen sllen before after count
  -- it is the same heap
  pub identity : after.identity ≡ before.identity
  -- it has the same chunks
  pub chunks : after.state.chunks ≡ before.state.chunks
  -- if no byte of the memory was raw, none is
  pub settled : IsSettled before.memory → IsSettled after.memory
  -- it is sized for all that it was sized for
  pub bounds : KeepsAllBounds sllen before.state after.state
  -- so many payloads less are live
  pub live : live_count before.state ≡ live_count after.state + count
  -- each takes 32 word accesses at most
  pub touches : after.memory.touches ≤ before.memory.touches + 32 * count

-- what an owner's allocation does: it collects at most two payloads, of those that are lent, and then makes the step of the model
unfoldable pub Serves : ℕ → ℕ → OwnerView → OwnerView → ℕ → ℕ → Option ℕ → Type 0
Serves fllen sllen before after size align addr =
    (between : HeapView) × (count : ℕ) × (count ≤ 2) × (before.lent ≡ after.lent + count) × IsCollected fllen sllen before.heap between count
    × Steps fllen sllen after.heap (Allocates sllen between.state size align addr)

-- what an owner does that lends a new payload, once it has collected
pub record LendsNew (fllen sllen : ℕ) (before after : OwnerView) (size align : ℕ) (addr : Option ℕ) : Type 0 where
  -- if as many are lent as can be, it refuses, and nothing changes
  pub full : before.lent ≡ before.room → (addr ≡ None) × (after.heap ≡ before.heap)
  -- else it makes the step of the model
  pub step : before.lent < before.room → Steps fllen sllen after.heap (Allocates sllen before.heap.state size align addr)
  -- a new payload counts as lent
  pub lent : after.lent ≡ before.lent + length (option_to_list addr)

-- what an owner's allocation of a lent payload does: it collects at most two payloads, and then lends a new one
unfoldable pub ServesLent : ℕ → ℕ → OwnerView → OwnerView → ℕ → ℕ → Option ℕ → Type 0
ServesLent fllen sllen before after size align addr =
    (between : OwnerView) × (count : ℕ) × (count ≤ 2) × (before.lent ≡ between.lent + count) × (between.room ≡ before.room)
    × IsCollected fllen sllen before.heap between.heap count × LendsNew fllen sllen between after size align addr

-- what a payload is that an owner allocated
pub record IsServed (before after : HeapView) (size align : ℕ) (p : PayloadView) : Type 0 where
  -- it is of the owner's heap
  pub identity : p.identity ≡ before.identity
  -- it has the requested alignment
  pub requested : p.align ≡ align
  -- its address is a multiple of the alignment
  pub aligned : p.start % align ≡ 0
  -- it is long enough
  pub sized : size ≤ length p.bytes
  -- and no longer than necessary
  pub few : length p.bytes < size + 32
  -- if no byte of the memory was raw, all its bytes are here
  pub written : IsSettled before.memory → IsWritten p

-- what every call of an owner keeps
pub record KeepsOwner (before after : OwnerView) : Type 0 where
  -- it is the same heap
  pub identity : after.heap.identity ≡ before.heap.identity
  -- if no byte of the memory was raw, none is
  pub settled : IsSettled before.heap.memory → IsSettled after.heap.memory
  -- as many may be lent
  pub room : after.room ≡ before.room

-- a call that neither lends nor collects: as many payloads are lent, and it takes at most so many word accesses
pub record LeavesLent (before after : OwnerView) (most : ℕ) : Type 0 where
  -- as many are lent
  pub lent : after.lent ≡ before.lent
  -- as many may be lent
  pub room : after.room ≡ before.room
  -- word accesses
  pub touches : after.heap.memory.touches ≤ before.heap.memory.touches + most
