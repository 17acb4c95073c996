-- What the calls of an allocator over a source ensure by the clauses `room`, `refused` and `frame`. The records of the clause `result` are those of
-- an allocator over pools.
use Rattle.std.specs.Prelude.{◌≡◌, ◌≢◌, ℕ, ◌+◌, ◌≤◌, length, Some}
use Rattle.rlsf_model_sizes.specs.Sizes.{pool_size_for_payloads}
use Rattle.rlsf_base.specs.Space.{SamePlace}
use Rattle.rlsf_blocks.specs.Spare.{KeepsSpare}
use Rattle.rlsf_tlsf.specs.Bounds.{IfWithinBounds}
use Rattle.rlsf_flex.specs.StandsFor.{FlexContents}
use Rattle.rlsf_model.specs.Callers.{align_at, bytes_at}
use Rattle.rlsf_model.specs.Reallocate.{HasRoomToResize, HasRoomToStay}
use Rattle.rlsf_model.specs.Sized.{IsSizedFor, live_count}
use Rattle.rlsf_model.specs.State.{State}

-- ---- what can't be refused

-- what holds within all bounds that the allocator is sized for, if they include this size and alignment, and no more payloads are live than they allow
pub record SucceedsUnasked {S : Type 0} (sllen : ℕ) (before after : FlexContents S) (size align : ℕ) (succeeds : Type 0) : Type 0 where
  -- the call is not refused
  pub room : IfWithinBounds sllen before.state.machine size align succeeds
  -- and the source is asked nothing
  pub unasked : IfWithinBounds sllen before.state.machine size align (after.source ≡ before.source)

-- if the payload that was deallocated at an address was the only one, the allocator is now sized for all bounds that its usable bytes and 48 more
-- are enough for
abbrev pub SizesFreedRoom : ℕ → ℕ → State → State → ℕ → Type 0
SizesFreedRoom fllen sllen before after addr =
    (count size align len : ℕ) → pool_size_for_payloads fllen sllen count size align ≡ Some len → len ≤ length (bytes_at before addr) + 48 → live_count before ≡ 1
    → IsSizedFor sllen count size align after

-- ---- a refusal

-- a refused call changes nothing but the source, if that was asked, and the number of word accesses
pub record IsUnchangedButSource {S : Type 0} (before after : FlexContents S) : Type 0 where
  -- chunks, blocks, payloads, outstanding ranges and the kept pool are as they were
  pub same : after.state ≡ before.state
  -- and so is each byte of the memory
  pub bytes : after.memory.bytes ≡ before.memory.bytes

-- ---- what a call keeps in every case

-- of a call that may ask the source, and copies no byte
pub record KeepsFlexFrame {S : Type 0} (before after : FlexContents S) : Type 0 where
  -- start and length of the memory, and where it lies
  pub place : SamePlace before.memory after.memory
  -- word accesses are only added
  pub grow : before.memory.touches ≤ after.memory.touches
  -- no byte is copied
  pub copied : after.memory.copied ≡ before.memory.copied

-- of a call that may ask the source, and may move the payload at an address to get it this size
pub record KeepsFlexFrameMoving {S : Type 0} (sllen addr size : ℕ) (before after : FlexContents S) : Type 0 where
  -- as many payloads are live as before
  pub count : live_count after.state.machine ≡ live_count before.state.machine
  -- start and length of the memory, and where it lies
  pub place : SamePlace before.memory after.memory
  -- word accesses are only added
  pub grow : before.memory.touches ≤ after.memory.touches
  -- if there is room, no more bytes are copied than the payload had
  pub copied : HasRoomToResize sllen before.state.machine addr size → after.memory.copied ≤ before.memory.copied + length (bytes_at before.state.machine addr)
  -- copied bytes are only added
  pub grow_copied : before.memory.copied ≤ after.memory.copied
  -- if there is room for the payload to stay, no byte is copied
  pub stays : HasRoomToStay before.state.machine addr size → after.memory.copied ≡ before.memory.copied

-- of a call that asks the source nothing, and copies no byte
pub record KeepsFlexFrameAlone {S : Type 0} (before after : FlexContents S) : Type 0 where
  -- the source
  pub source : after.source ≡ before.source
  -- the chunks
  pub chunks : after.state.machine.chunks ≡ before.state.machine.chunks
  -- start and length of the memory, and where it lies
  pub place : SamePlace before.memory after.memory
  -- word accesses are only added
  pub grow : before.memory.touches ≤ after.memory.touches
  -- no byte is copied
  pub copied : after.memory.copied ≡ before.memory.copied

-- of a call that may change the size of the payload at an address, of this alignment, in place
pub record KeepsFlexFrameInPlace {S : Type 0} (addr align : ℕ) (before after : FlexContents S) : Type 0 where
  -- the source
  pub source : after.source ≡ before.source
  -- the payload is live, with its alignment
  pub live : align_at after.state.machine addr ≡ Some align
  -- all payloads have their addresses and alignments
  pub aligns : align_at after.state.machine ≡ align_at before.state.machine
  -- the other payloads have the bytes that they had
  pub bytes : (a : ℕ) → a ≢ addr → bytes_at after.state.machine a ≡ bytes_at before.state.machine a
  -- as many payloads are live as before
  pub count : live_count after.state.machine ≡ live_count before.state.machine
  -- the chunks
  pub chunks : after.state.machine.chunks ≡ before.state.machine.chunks
  -- start and length of the memory, and where it lies
  pub place : SamePlace before.memory after.memory
  -- word accesses are only added
  pub grow : before.memory.touches ≤ after.memory.touches
  -- no byte is copied
  pub copied : after.memory.copied ≡ before.memory.copied

-- of a call that copies `len` bytes from one payload to another
pub record KeepsFlexFrameCopying {S : Type 0} (len : ℕ) (before after : FlexContents S) : Type 0 where
  -- the source
  pub source : after.source ≡ before.source
  -- the chunks
  pub chunks : after.state.machine.chunks ≡ before.state.machine.chunks
  -- start and length of the memory, and where it lies
  pub place : SamePlace before.memory after.memory
  -- so many bytes are copied
  pub copied : after.memory.copied ≡ before.memory.copied + len

-- of a call that returns ranges to the source
pub record KeepsFlexFrameOfTrim {S : Type 0} (before after : FlexContents S) : Type 0 where
  -- each byte of the memory that no block is made of, before and after
  pub spare : KeepsSpare before.memory before.state.machine after.memory after.state.machine
  -- all payloads have their addresses and alignments
  pub aligns : align_at after.state.machine ≡ align_at before.state.machine
  -- and their bytes
  pub bytes : bytes_at after.state.machine ≡ bytes_at before.state.machine
  -- as many payloads are live as before
  pub count : live_count after.state.machine ≡ live_count before.state.machine
  -- start and length of the memory, and where it lies
  pub place : SamePlace before.memory after.memory
  -- word accesses are only added
  pub grow : before.memory.touches ≤ after.memory.touches
  -- no byte is copied
  pub copied : after.memory.copied ≡ before.memory.copied
