-- Payloads of complete units, as contracts see them.
use Rattle.std.specs.Prelude.{◌≡◌, ◌≢◌, ℕ, ◌+◌, ◌-◌, ◌%◌, Option, Some, None, Result, Ok, Err}
use Rattle.rlsf_base.specs.declared.memory.unit_payload.UnitPayload.{UnitPayload}
use Rattle.rlsf_base.specs.Range.{range_at}
use Rattle.rlsf_model_sizes.specs.Rounding.{round32}
use Rattle.rlsf_model.specs.Callers.{align_at}
use Rattle.rlsf_model.specs.Sized.{live_count}
use Rattle.rlsf_heap.specs.Heap.{HeapView, Identity}
use Rattle.rlsf_heap.specs.Kept.{KeepsBytesBeside}

-- which heap a payload is of
abbrev pub identity_of : UnitPayload → Identity
identity_of p = record { home = p.home; ledger = p.name }

-- a payload is of a heap, and complete: none of its bytes stay with their owner
abbrev pub IsCompleteOf : UnitPayload → Identity → Type 0
IsCompleteOf p heap = (identity_of p ≡ heap) × (p.kept ≡ 0)

-- the address of a payload that has another size, or none if it kept its own
abbrev pub stayed_at : Result UnitPayload UnitPayload → Option ℕ
stayed_at (Ok p) = Some p.start
stayed_at (Err p) = None

-- the address of a payload, if there is one
abbrev pub unit_addr_of : Option UnitPayload → Option ℕ
unit_addr_of None = None
unit_addr_of (Some p) = Some p.start

-- the length of a payload for so many bytes, of an alignment of 16 or less: its block has 16 bytes more, and is a multiple of 32
abbrev pub payload_len : ℕ → ℕ
payload_len size = round32 (size + 16) - 16

-- the memory of a heap has units of 16 bytes
abbrev pub GivesUnits : Identity → Type 0
GivesUnits h = h.home.view.shift % 16 ≡ 0

-- what an allocated payload of units is
pub record IsUnitAllocated (before after : HeapView) (size : ℕ) (p : UnitPayload) : Type 0 where
  -- it is of this heap, and complete
  pub complete : IsCompleteOf p before.identity
  -- it has the length for the size
  pub long : p.len ≡ payload_len size
  -- it is live
  pub live : align_at after.state p.start ≡ Some 16
  -- none was live there
  pub new : align_at before.state p.start ≡ None
  -- the others are live as before
  pub aligns : (a : ℕ) → a ≢ p.start → align_at after.state a ≡ align_at before.state a
  -- one more payload is live
  pub count : live_count after.state ≡ live_count before.state + 1

-- a payload of units has a length, where it was
pub record IsInPlace (heap : Identity) (was : UnitPayload) (len : ℕ) (p : UnitPayload) : Type 0 where
  -- it is of this heap
  pub identity : identity_of p ≡ heap
  -- it is where it was
  pub start : p.start ≡ was.start
  -- and so is its pointer
  pub ptr : p.ptr ≡ was.ptr
  -- as many first bytes stay with their owner
  pub kept : p.kept ≡ was.kept
  -- it has the length
  pub long : p.len ≡ len

-- a payload of units has another size
pub record IsUnitResized (before after : HeapView) (was : UnitPayload) (size : ℕ) (p : UnitPayload) : Type 0 where
  -- it has the length for the size
  pub place : IsInPlace before.identity was (payload_len size) p
  -- the same payloads are live, with their alignments
  pub aligns : align_at after.state ≡ align_at before.state

-- a payload of units kept its size
pub record IsUnitRefused (before after : HeapView) (was p : UnitPayload) : Type 0 where
  -- it has the length that it had
  pub place : IsInPlace before.identity was was.len p
  -- the state is the same
  pub same : after.state ≡ before.state
  -- the same payloads are live, with their alignments
  pub aligns : align_at after.state ≡ align_at before.state
  -- no byte of the memory beside it is another
  pub unchanged : KeepsBytesBeside before after (range_at was.start was.len)
