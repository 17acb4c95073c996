-- What the calls of a heap keep, and which bounds it stays sized for.
use Rattle.std.specs.Prelude.{◌≡◌, ℕ, ◌+◌, ◌≤◌, length}
use Rattle.rlsf_base.specs.declared.memory.range.Range.{Range}
use Rattle.rlsf_model.specs.Callers.{align_at}
use Rattle.rlsf_model.specs.Reallocate.{HasRoomToStay}
use Rattle.rlsf_model.specs.Sized.{live_bytes, live_count}
use Rattle.rlsf_model.specs.State.{State}
pub use Rattle.rlsf_tlsf.specs.Bounds.{KeepsAllBounds, KeepsBounds}
use Rattle.rlsf_tlsf.specs.Bounds.{KeepsBudgets}
use Rattle.rlsf_tlsf.specs.Sizing.{SizesPool, SizesPoolForBudget}
use Rattle.rlsf_heap.specs.Heap.{HeapView, PayloadView, lent_bytes}
use Rattle.rlsf_heap.specs.Kept.{KeepsSpareBytes, NoneBecomesRaw, NoneBecomesRawBeside}
use Rattle.rlsf_heap.specs.Settled.{IsSettled}

-- what every call keeps: it is the same heap, over the same memory
pub record KeepsHeap (before after : HeapView) : Type 0 where
  -- the block of its memory, and its ledger
  pub identity : after.identity ≡ before.identity
  -- the address and the length of its memory
  pub place : (after.memory.start ≡ before.memory.start) × (length after.memory.bytes ≡ length before.memory.bytes)
  -- each byte that no block is made of, before and after
  pub spare : KeepsSpareBytes before after
  -- whether its bytes are lent to it in ranges
  pub lent : after.lent ≡ before.lent
  -- which bytes are
  pub lent_bytes : lent_bytes after ≡ lent_bytes before
  -- word accesses are added to the count
  pub grow : before.memory.touches ≤ after.memory.touches

-- what a call on payloads keeps that copies no byte of the memory
pub record KeepsFrame (before after : HeapView) : Type 0 where
  -- it is the same heap
  pub heap : KeepsHeap before after
  -- no byte becomes raw
  pub raw : NoneBecomesRaw before after
  -- if no byte of the memory was raw, none is
  pub settled : IsSettled before.memory → IsSettled after.memory
  -- it has the same chunks
  pub chunks : after.state.chunks ≡ before.state.chunks
  -- no byte is copied
  pub copied : after.memory.copied ≡ before.memory.copied

-- what a call keeps that takes a payload's bytes without their values
pub record KeepsFrameBeside (before after : HeapView) (r : Range) : Type 0 where
  -- it is the same heap
  pub heap : KeepsHeap before after
  -- no byte beside the payload's becomes raw
  pub raw : NoneBecomesRawBeside before after r
  -- it has the same chunks
  pub chunks : after.state.chunks ≡ before.state.chunks
  -- no byte is copied
  pub copied : after.memory.copied ≡ before.memory.copied

-- what a reallocation keeps that may copy the payload's bytes in the memory
pub record KeepsFrameMoving (before after : HeapView) (addr size : ℕ) (was : PayloadView) : Type 0 where
  -- it is the same heap
  pub heap : KeepsHeap before after
  -- no byte becomes raw
  pub raw : NoneBecomesRaw before after
  -- if no byte of the memory was raw, none is
  pub settled : IsSettled before.memory → IsSettled after.memory
  -- it has the same chunks
  pub chunks : after.state.chunks ≡ before.state.chunks
  -- at most the payload's bytes are copied
  pub copied : after.memory.copied ≤ before.memory.copied + length was.bytes
  -- copied bytes are added to the count
  pub grow_copied : before.memory.copied ≤ after.memory.copied
  -- none is copied, if the payload has room to stay
  pub stays : HasRoomToStay before.state addr size → after.memory.copied ≡ before.memory.copied

-- what a call on pools keeps
pub record KeepsPayloads (before after : HeapView) : Type 0 where
  -- it is the same heap
  pub heap : KeepsHeap before after
  -- no byte becomes raw
  pub raw : NoneBecomesRaw before after
  -- if no byte of the memory was raw, none is
  pub settled : IsSettled before.memory → IsSettled after.memory
  -- the same payloads are live, with their alignments
  pub aligns : align_at after.state ≡ align_at before.state
  -- as many payloads are live
  pub count : live_count after.state ≡ live_count before.state
  -- no byte is copied
  pub copied : after.memory.copied ≡ before.memory.copied

-- a pool keeps what the state before was sized for, and the bytes of live payloads' blocks
pub record KeepsRoom (sllen : ℕ) (before after : State) : Type 0 where
  -- it stays sized for all bounds
  pub bounds : KeepsAllBounds sllen before after
  -- and for all budgets
  pub budgets : KeepsBudgets sllen before after
  -- the blocks of live payloads have as many bytes
  pub blocks : live_bytes after ≡ live_bytes before

-- what the state is sized for after a range was inserted
pub record AddsRoom (fllen sllen : ℕ) (r : Range) (before after : State) : Type 0 where
  -- if nothing was live, all bounds that the range is long enough for
  pub pool : SizesPool fllen sllen r before after
  -- all budgets that it is long enough for, whatever was live
  pub budget : SizesPoolForBudget fllen sllen r after
  -- and all that it was sized for before
  pub kept : KeepsRoom sllen before after

-- a reallocation keeps bounds, and the number of payloads
pub record KeepsSized (sllen : ℕ) (before after : State) (size align : ℕ) : Type 0 where
  -- within bounds that include this size and alignment, it stays sized for them
  pub sized : KeepsBounds sllen before after size align
  -- as many payloads are live
  pub count : live_count after ≡ live_count before
