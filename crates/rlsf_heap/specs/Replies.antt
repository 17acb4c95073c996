-- What the allocations and reallocations of a heap return.
use Rattle.std.specs.Prelude.{◌≡◌, ◌≢◌, ℕ, ◌+◌, ◌%◌, ◌<◌, ◌≤◌, length, min, replicate, slice_index, Some, None}
use Rattle.rlsf_base.specs.Changes.{AreBytesHere}
use Rattle.rlsf_base.specs.Layout.{IsLayout}
use Rattle.rlsf_base.specs.Range.{range_at}
use Rattle.rlsf_model_sizes.specs.Sizes.{request_size}
use Rattle.rlsf_model.specs.Callers.{align_at, bytes_at}
use Rattle.rlsf_model.specs.Reallocate.{Keeps}
use Rattle.rlsf_model.specs.Sized.{live_bytes, live_count}
use Rattle.rlsf_model.specs.State.{AreAlike, State}
pub use Rattle.rlsf_tlsf.specs.Bounds.{IfWithinBounds as WithinBounds}
use Rattle.rlsf_heap.specs.Heap.{HeapView, IsOwners, IsWritten, LiesInChunk, PayloadView, payload_range}
use Rattle.rlsf_heap.specs.Kept.{KeepsBytesBeside}
use Rattle.rlsf_heap.specs.Settled.{IsSettled}

-- a refused call: nothing that callers see is another
pub record IsUnchanged (before after : HeapView) : Type 0 where
  -- the state of the reference model
  pub same : after.state ≡ before.state
  -- the bytes of the memory
  pub bytes : after.memory.bytes ≡ before.memory.bytes

-- what an allocated payload is
pub record IsAllocated (before after : HeapView) (size align : ℕ) (p : PayloadView) : Type 0 where
  -- it is of this heap
  pub identity : p.identity ≡ before.identity
  -- it is live
  pub live : align_at after.state p.start ≡ Some align
  -- it has the requested alignment
  pub requested : p.align ≡ align
  -- it is as long as the state says
  pub long : length p.bytes ≡ length (bytes_at after.state p.start)
  -- its address is a multiple of the alignment
  pub aligned : p.start % align ≡ 0
  -- it is long enough
  pub sized : size ≤ length p.bytes
  -- and no longer than necessary
  pub few : length p.bytes < size + 32
  -- none was live there
  pub new : align_at before.state p.start ≡ None
  -- one more payload is live
  pub count : live_count after.state ≡ live_count before.state + 1
  -- the others are live as before
  pub aligns : (a : ℕ) → a ≢ p.start → align_at after.state a ≡ align_at before.state a
  -- if no byte of the memory was raw, all its bytes are here
  pub written : IsSettled before.memory → IsWritten p

-- what an allocated payload is that was filled with zeros
pub record IsAllocatedZeroed (before after : HeapView) (size align : ℕ) (p : PayloadView) : Type 0 where
  -- it is an allocated one
  pub made : IsAllocated before after size align p
  -- all its bytes are here
  pub written : IsWritten p
  -- and 0
  pub zeros : p.bytes ≡ replicate (length p.bytes) 0

-- no payload is live at an address any more
pub record IsGone (before after : State) (addr : ℕ) : Type 0 where
  -- none is live there
  pub gone : align_at after addr ≡ None
  -- the others are live as before
  pub aligns : (a : ℕ) → a ≢ addr → align_at after a ≡ align_at before a
  -- one payload less is live
  pub count : live_count before ≡ live_count after + 1

-- a payload at an address was deallocated
pub record IsDeallocated (before after : HeapView) (addr : ℕ) (p : PayloadView) : Type 0 where
  -- until then each byte was its owner's
  pub owner : IsOwners before p
  -- it was live
  pub live : align_at before.state addr ≡ Some p.align
  -- it is not live any more
  pub gone : IsGone before.state after.state addr
  -- the blocks of live payloads have fewer bytes: by those that its bytes are sought with, or more
  pub freed : live_bytes after.state + request_size (length p.bytes) 16 ≤ live_bytes before.state

-- what every payload is that has another size
pub record IsResized (before after : HeapView) (size align : ℕ) (was p : PayloadView) : Type 0 where
  -- it is of this heap
  pub identity : p.identity ≡ before.identity
  -- it has the requested alignment
  pub requested : p.align ≡ align
  -- it is live
  pub live : align_at after.state p.start ≡ Some align
  -- it is as long as the state says
  pub long : length p.bytes ≡ length (bytes_at after.state p.start)
  -- its address is a multiple of the alignment
  pub aligned : p.start % align ≡ 0
  -- it is long enough
  pub sized : size ≤ length p.bytes
  -- and no longer than necessary
  pub few : length p.bytes < size + 32
  -- it begins with the bytes that were kept
  pub kept : Keeps was.bytes p.bytes
  -- each of them is as it was
  pub each : (k : ℕ) → k < length was.bytes → k < length p.bytes → slice_index p.bytes k ≡ slice_index was.bytes k
  -- they are here
  pub here : AreBytesHere p.out 0 (min (length was.bytes) (length p.bytes))
  -- all its bytes are here, if it got no longer
  pub shrunk : length p.bytes ≤ length was.bytes → IsWritten p
  -- all its bytes are here, if no byte of the memory was raw
  pub written : IsSettled before.memory → IsWritten p

-- what a payload is that has another size, and may have moved
pub record IsResizedOrMoved (before after : HeapView) (addr size align : ℕ) (was p : PayloadView) : Type 0 where
  -- a layout has this size and alignment
  pub layout : IsLayout size align
  -- it has the size
  pub resized : IsResized before after size align was p
  -- it isn't at the address 0
  pub some : p.start ≢ 0
  -- if it moved, none was live where it is now
  pub new : p.start ≢ addr → align_at before.state p.start ≡ None
  -- the others are live as before
  pub aligns : (a : ℕ) → a ≢ addr → a ≢ p.start → align_at after.state a ≡ align_at before.state a

-- what a payload is that has another size, at its address
pub record IsResizedInPlace (before after : HeapView) (addr size align : ℕ) (was p : PayloadView) : Type 0 where
  -- a layout has this size and alignment
  pub layout : IsLayout size align
  -- it has the size
  pub resized : IsResized before after size align was p
  -- it is where it was
  pub start : p.start ≡ addr
  -- the same payloads are live, with their alignments
  pub aligns : align_at after.state ≡ align_at before.state

-- a refused reallocation: the payload is as it was, and so are all others
pub record IsRefused (before after : HeapView) (addr align : ℕ) (was p : PayloadView) : Type 0 where
  -- the payload is of this heap
  pub identity : p.identity ≡ before.identity
  -- it has the alignment that it had
  pub requested : p.align ≡ align
  -- it is where it was
  pub start : p.start ≡ addr
  -- it has the bytes that it had
  pub bytes : p.bytes ≡ was.bytes
  -- all are here
  pub written : IsWritten p
  -- chunks and used blocks are the same, and the free blocks
  pub alike : AreAlike before.state after.state
  -- the same payloads are live, with their alignments
  pub aligns : align_at after.state ≡ align_at before.state
  -- no byte of the memory beside it is another
  pub unchanged : KeepsBytesBeside before after (range_at was.start (length was.bytes))

-- what is so of each payload that is out
pub record IsOut (s : State) (p : PayloadView) : Type 0 where
  -- it is live
  pub live : align_at s p.start ≡ Some p.align
  -- it is as long as the state says
  pub long : length p.bytes ≡ length (bytes_at s p.start)
  -- its address is a multiple of its alignment
  pub aligned : p.start % p.align ≡ 0
  -- its bytes lie in one chunk, behind 16 bytes or more and before the sentinel
  pub inside : LiesInChunk s (payload_range p)
