-- What the calls on payloads that are known by their address return.
use Rattle.std.specs.Prelude.{◌≡◌, ◌≢◌, ℕ, Option, Some, None, Result, Ok, Err}
use Rattle.rlsf_model.specs.Allocate.{Allocates}
use Rattle.rlsf_model.specs.Callers.{align_at}
use Rattle.rlsf_model.specs.Release.{Deallocates}
use Rattle.rlsf_model.specs.State.{State}
use Rattle.rlsf_heap.specs.declared.thin.ThinPayload.{ThinPayload}
use Rattle.rlsf_heap.specs.Heap.{HeapView, IsWritten, PayloadView}
use Rattle.rlsf_heap.specs.Replies.{IsResized, IsUnchanged}

-- the address of a reallocated payload, or none if the reallocation was refused
abbrev pub thin_moved_to : Result ThinPayload ThinPayload → Option ℕ
thin_moved_to (Ok p) = Some p.of.start
thin_moved_to (Err p) = None

-- the payload at an address moves into a new one: that is allocated, and the old one is deallocated. It is refused exactly where the
-- allocation is
abbrev pub MovesElsewhere : ℕ → State → ℕ → ℕ → ℕ → Option ℕ → State → Type 0
MovesElsewhere sllen s addr size align None t = Allocates sllen s size align None t
MovesElsewhere sllen s addr size align (Some to) t = (made : State) × Allocates sllen s size align (Some to) made × Deallocates made addr t

-- a payload by its address, of which this is so
pub record IsThin (P : PayloadView → Type 0) (p : ThinPayload) : Type 0 where
  -- its address
  pub at : p.addr ≡ p.of.start
  -- what is so of it
  pub of : P p.of

-- a payload by its address, of which this is so if there is one. The address 0 says that there is none
pub record IsThinReply (P : PayloadView → Type 0) (p : ThinPayload) : Type 0 where
  -- its address
  pub at : p.addr ≡ p.of.start
  -- what is so of it, if there is one
  pub made : p.of.start ≢ 0 → P p.of

-- what a payload that may move from an address leaves
pub record LeavesOthers (before after : State) (addr to : ℕ) : Type 0 where
  -- it isn't at the address 0
  pub some : to ≢ 0
  -- none was live where it is now
  pub new : to ≢ addr → align_at before to ≡ None
  -- the others are live as before
  pub aligns : (a : ℕ) → a ≢ addr → a ≢ to → align_at after a ≡ align_at before a

-- what a payload is that moved into a new one
pub record IsThinMoved (before after : HeapView) (addr size align : ℕ) (was p : PayloadView) : Type 0 where
  -- it has the size, and the requested alignment
  pub resized : IsResized before after size align was p
  -- all its bytes are here
  pub written : IsWritten p
  -- it is another one
  pub apart : p.start ≢ addr
  -- none is live where it was
  pub gone : align_at after.state addr ≡ None
  -- the other payloads are left
  pub others : LeavesOthers before.state after.state addr p.start

-- a payload that couldn't move
pub record IsLeft (before after : HeapView) (was p : PayloadView) : Type 0 where
  -- it is as it was
  pub same : p ≡ was
  -- it is of this heap
  pub identity : p.identity ≡ before.identity
  -- it has the alignment that it had
  pub requested : p.align ≡ was.align
  -- nothing is another
  pub unchanged : IsUnchanged before after
