-- What the calls of an allocator ensure: a record for each of the clauses `result`, `refused` and `frame`. The calls of other types share them.
use Rattle.std.specs.Prelude.{◌≡◌, ◌≢◌, ℕ, ◌+◌, ◌<◌, ◌≤◌, length, List, None, Some, IsSome, replicate}
use Rattle.rlsf_base.specs.declared.memory.range.Range.{Range}
use Rattle.rlsf_base.specs.Range.{AreApart}
use Rattle.rlsf_model_sizes.specs.Sizes.{request_size}
use Rattle.rlsf_base.specs.Space.{SamePlace}
use Rattle.rlsf_model.specs.Callers.{align_at, bytes_at}
use Rattle.rlsf_model.specs.Insert.{IsUntouched}
use Rattle.rlsf_model.specs.Reallocate.{HasRoomToStay, Keeps}
use Rattle.rlsf_model.specs.Sized.{live_bytes, live_count}
use Rattle.rlsf_model.specs.State.{State}
use Rattle.rlsf_tlsf.specs.Allocator.{Allocator}
use Rattle.rlsf_tlsf.specs.Bounds.{KeepsBudgets}
use Rattle.rlsf_tlsf.specs.Sizing.{SizesPool, SizesPoolForBudget}

-- ---- the results

-- a payload was allocated at the address, for this size and alignment
pub record IsAllocated (before after : State) (size align addr : ℕ) : Type 0 where
  -- it is live, with the alignment
  pub live : align_at after addr ≡ Some align
  -- it has at least the size in usable bytes
  pub sized : size ≤ length (bytes_at after addr)
  -- and less than 32 more
  pub few : length (bytes_at after addr) < size + 32
  -- no payload was live there before
  pub new : align_at before addr ≡ None
  -- the other addresses have the payloads that they had
  pub aligns : (a : ℕ) → a ≢ addr → align_at after a ≡ align_at before a
  -- with their bytes
  pub bytes : (a : ℕ) → a ≢ addr → bytes_at after a ≡ bytes_at before a
  -- one more payload is live
  pub count : live_count after ≡ live_count before + 1

-- a payload was allocated at the address, for this size and alignment, and its bytes are zeros
pub record IsAllocatedWithZeros (before after : State) (size align addr : ℕ) : Type 0 where
  -- it was allocated
  pub made : IsAllocated before after size align addr
  -- its bytes are 0
  pub zeros : bytes_at after addr ≡ replicate (length (bytes_at after addr)) 0

-- the payload at the address was deallocated
pub record IsDeallocated (before after : State) (addr : ℕ) : Type 0 where
  -- no payload is live there
  pub gone : align_at after addr ≡ None
  -- the other addresses have the payloads that they had
  pub aligns : (a : ℕ) → a ≢ addr → align_at after a ≡ align_at before a
  -- with their bytes
  pub bytes : (a : ℕ) → a ≢ addr → bytes_at after a ≡ bytes_at before a
  -- one payload less is live
  pub count : live_count before ≡ live_count after + 1
  -- the blocks of live payloads have fewer bytes: by those that its usable bytes are sought with, or more
  pub freed : live_bytes after + request_size (length (bytes_at before addr)) 16 ≤ live_bytes before

-- the payload at an address, of this alignment, got this size. It is now at `to`, which may be the same address
pub record IsReallocated (before after : State) (addr size align to : ℕ) : Type 0 where
  -- it is live, with its alignment
  pub live : align_at after to ≡ Some align
  -- it has at least the size in usable bytes
  pub sized : size ≤ length (bytes_at after to)
  -- and less than 32 more
  pub few : length (bytes_at after to) < size + 32
  -- it begins with the bytes that it had, as many as both sizes have
  pub kept : Keeps (bytes_at before addr) (bytes_at after to)
  -- if it moved, no payload was live where it is
  pub new : to ≢ addr → align_at before to ≡ None
  -- all addresses but these two have the payloads that they had
  pub aligns : (a : ℕ) → a ≢ addr → a ≢ to → align_at after a ≡ align_at before a
  -- with their bytes
  pub bytes : (a : ℕ) → a ≢ addr → a ≢ to → bytes_at after a ≡ bytes_at before a

-- the payload at an address, of any alignment, got this size. It is now at `to`, which may be the same address
pub record IsReallocatedAnyAlign (before after : State) (addr size align to : ℕ) : Type 0 where
  -- it is live
  pub live : IsSome (align_at after to)
  -- if it stayed, it has the alignment that it had
  pub there : to ≡ addr → align_at after to ≡ align_at before addr
  -- if it moved, it has the alignment that was passed
  pub moved : to ≢ addr → align_at after to ≡ Some align
  -- and no payload is live where it was
  pub gone : to ≢ addr → align_at after addr ≡ None
  -- it has at least the size in usable bytes
  pub sized : size ≤ length (bytes_at after to)
  -- and less than 32 more
  pub few : length (bytes_at after to) < size + 32
  -- it begins with the bytes that it had, as many as both sizes have
  pub kept : Keeps (bytes_at before addr) (bytes_at after to)
  -- if it moved, no payload was live where it is
  pub new : to ≢ addr → align_at before to ≡ None
  -- all addresses but these two have the payloads that they had
  pub aligns : (a : ℕ) → a ≢ addr → a ≢ to → align_at after a ≡ align_at before a
  -- with their bytes
  pub bytes : (a : ℕ) → a ≢ addr → a ≢ to → bytes_at after a ≡ bytes_at before a

-- the payload at an address got this size in place. `to` is the returned address
pub record IsResized (before after : State) (addr size to : ℕ) : Type 0 where
  -- the payload is where it was
  pub there : to ≡ addr
  -- it has at least the size in usable bytes
  pub sized : size ≤ length (bytes_at after addr)
  -- and less than 32 more
  pub few : length (bytes_at after addr) < size + 32
  -- it begins with the bytes that it had, as many as both sizes have
  pub kept : Keeps (bytes_at before addr) (bytes_at after addr)

-- the payload at the address has these bytes
pub record IsFilled (before after : State) (addr : ℕ) (w : List ℕ) : Type 0 where
  -- the bytes
  pub filled : bytes_at after addr ≡ w
  -- the other payloads have the bytes that they had
  pub bytes : (a : ℕ) → a ≢ addr → bytes_at after a ≡ bytes_at before a
  -- all payloads have their addresses and alignments
  pub aligns : align_at after ≡ align_at before
  -- as many payloads are live as before
  pub count : live_count after ≡ live_count before
  -- and their blocks have as many bytes
  pub blocks : live_bytes after ≡ live_bytes before

-- the range was inserted as a pool
pub record IsInserted (fllen sllen : ℕ) (r : Range) (before after : State) : Type 0 where
  -- a range that overlaps neither a chunk from before nor this range overlaps no chunk
  pub untouched : (other : Range) → IsUntouched before.chunks other → AreApart r other → IsUntouched after.chunks other
  -- if nothing was live, the allocator is now sized for all bounds that the range is long enough for
  pub pool : SizesPool fllen sllen r before after
  -- and for all budgets, whatever was live
  pub budget : SizesPoolForBudget fllen sllen r after
  -- it stays sized for the budgets that it was sized for
  pub budgets : KeepsBudgets sllen before after
  -- the blocks of live payloads have as many bytes as before
  pub blocks : live_bytes after ≡ live_bytes before

-- the range was appended to a pool
pub record IsAppended (sllen : ℕ) (r : Range) (before after : State) : Type 0 where
  -- a range that overlaps neither a chunk from before nor this range overlaps no chunk
  pub untouched : (other : Range) → IsUntouched before.chunks other → AreApart r other → IsUntouched after.chunks other
  -- the allocator stays sized for the budgets that it was sized for
  pub budgets : KeepsBudgets sllen before after
  -- the blocks of live payloads have as many bytes as before
  pub blocks : live_bytes after ≡ live_bytes before

-- the range, of complete chunks, was removed
pub record IsRemoved (r : Range) (before after : State) : Type 0 where
  -- a range that overlapped no chunk overlaps none
  pub untouched : (other : Range) → IsUntouched before.chunks other → IsUntouched after.chunks other
  -- neither does the removed range
  pub gone : IsUntouched after.chunks r
  -- the blocks of live payloads have as many bytes as before
  pub blocks : live_bytes after ≡ live_bytes before

-- ---- a refusal

-- a refused call changes nothing but the number of word accesses
pub record IsUnchanged (before after : Allocator) : Type 0 where
  -- chunks, blocks and payloads are as they were
  pub same : after.state ≡ before.state
  -- and so is each byte of the memory
  pub bytes : after.memory.bytes ≡ before.memory.bytes

-- ---- what a call keeps in every case

-- of a call that copies no byte
pub record KeepsFrame (before after : Allocator) : Type 0 where
  -- the chunks
  pub chunks : after.state.chunks ≡ before.state.chunks
  -- start and length of the memory, and where it lies
  pub place : SamePlace before.memory after.memory
  -- word accesses are only added
  pub grow : before.memory.touches ≤ after.memory.touches
  -- no byte is copied
  pub copied : after.memory.copied ≡ before.memory.copied

-- of a call that may move the payload at an address to get it this size
pub record KeepsFrameMoving (addr size : ℕ) (before after : Allocator) : Type 0 where
  -- as many payloads are live as before
  pub count : live_count after.state ≡ live_count before.state
  -- the chunks
  pub chunks : after.state.chunks ≡ before.state.chunks
  -- start and length of the memory, and where it lies
  pub place : SamePlace before.memory after.memory
  -- word accesses are only added
  pub grow : before.memory.touches ≤ after.memory.touches
  -- no more bytes are copied than the payload had
  pub copied : after.memory.copied ≤ before.memory.copied + length (bytes_at before.state addr)
  -- copied bytes are only added
  pub grow_copied : before.memory.copied ≤ after.memory.copied
  -- if there is room for the payload to stay, no byte is copied
  pub stays : HasRoomToStay before.state addr size → after.memory.copied ≡ before.memory.copied

-- of a call that may change the size of the payload at an address, of this alignment, in place
pub record KeepsFrameInPlace (addr align : ℕ) (before after : Allocator) : Type 0 where
  -- the payload is live, with its alignment
  pub live : align_at after.state addr ≡ Some align
  -- all payloads have their addresses and alignments
  pub aligns : align_at after.state ≡ align_at before.state
  -- the other payloads have the bytes that they had
  pub bytes : (a : ℕ) → a ≢ addr → bytes_at after.state a ≡ bytes_at before.state a
  -- as many payloads are live as before
  pub count : live_count after.state ≡ live_count before.state
  -- the chunks
  pub chunks : after.state.chunks ≡ before.state.chunks
  -- start and length of the memory, and where it lies
  pub place : SamePlace before.memory after.memory
  -- word accesses are only added
  pub grow : before.memory.touches ≤ after.memory.touches
  -- no byte is copied
  pub copied : after.memory.copied ≡ before.memory.copied

-- of a call that copies `len` bytes from one payload to another
pub record KeepsFrameCopying (len : ℕ) (before after : Allocator) : Type 0 where
  -- the chunks
  pub chunks : after.state.chunks ≡ before.state.chunks
  -- start and length of the memory, and where it lies
  pub place : SamePlace before.memory after.memory
  -- so many bytes are copied
  pub copied : after.memory.copied ≡ before.memory.copied + len

-- of a call on pools
pub record KeepsFrameOfPools (before after : Allocator) : Type 0 where
  -- all payloads have their addresses and alignments
  pub aligns : align_at after.state ≡ align_at before.state
  -- and their bytes
  pub bytes : bytes_at after.state ≡ bytes_at before.state
  -- as many payloads are live as before
  pub count : live_count after.state ≡ live_count before.state
  -- start and length of the memory, and where it lies
  pub place : SamePlace before.memory after.memory
  -- word accesses are only added
  pub grow : before.memory.touches ≤ after.memory.touches
  -- no byte is copied
  pub copied : after.memory.copied ≡ before.memory.copied
