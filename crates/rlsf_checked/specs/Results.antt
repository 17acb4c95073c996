-- What the calls of the checked allocator ensure by the clauses `result`, `refused` and `frame`, where an allocator over pools has no record for it.
use Rattle.std.specs.Prelude.{◌≡◌, ◌≢◌, ℕ, ◌+◌, ◌<◌, ◌≤◌, length, None, OnErr, OnOk, Result}
use Rattle.rlsf_model_sizes.specs.Sizes.{request_size}
use Rattle.rlsf_base.specs.Space.{SamePlace}
use Rattle.rlsf_checked.specs.Checked.{Checked}
use Rattle.rlsf_checked.specs.declared.error.CheckedError.{CheckedError}
use Rattle.rlsf_model.specs.Callers.{align_at, bytes_at}
use Rattle.rlsf_model.specs.Reallocate.{Keeps}
use Rattle.rlsf_model.specs.Sized.{live_bytes, live_count}
use Rattle.rlsf_model.specs.State.{State}

-- ---- the results

-- the payload at the address was deallocated, if one was live there
pub record IsDeallocatedIfLive (before after : State) (addr : ℕ) (reply : Result (Unit {0}) CheckedError) : Type 0 where
  -- no payload is live there
  pub gone : align_at after addr ≡ None
  -- the other addresses have the payloads that they had
  pub aligns : (a : ℕ) → a ≢ addr → align_at after a ≡ align_at before a
  -- with their bytes
  pub bytes : (a : ℕ) → a ≢ addr → bytes_at after a ≡ bytes_at before a
  -- if one was deallocated, one payload less is live
  pub count : OnOk reply (live_count before ≡ live_count after + 1)
  -- and the blocks of live payloads have fewer bytes: by those that its usable bytes are sought with, or more
  pub freed : OnOk reply (live_bytes after + request_size (length (bytes_at before addr)) 16 ≤ live_bytes before)

-- the payload at an address got this size, and has the alignment that it had. It is now at `to`, which may be the same address
pub record IsReallocatedSameAlign (before after : State) (addr size to : ℕ) : Type 0 where
  -- it is live, with its alignment
  pub live : align_at after to ≡ align_at before addr
  -- it has at least the size in usable bytes
  pub sized : size ≤ length (bytes_at after to)
  -- and less than 32 more
  pub few : length (bytes_at after to) < size + 32
  -- it begins with the bytes that it had, as many as both sizes have
  pub kept : Keeps (bytes_at before addr) (bytes_at after to)
  -- if it moved, no payload was live where it is
  pub new : to ≢ addr → align_at before to ≡ None
  -- and none is live where it was
  pub left : to ≢ addr → align_at after addr ≡ None
  -- all addresses but these two have the payloads that they had
  pub aligns : (a : ℕ) → a ≢ addr → a ≢ to → align_at after a ≡ align_at before a
  -- with their bytes
  pub bytes : (a : ℕ) → a ≢ addr → a ≢ to → bytes_at after a ≡ bytes_at before a

-- ---- refusals

-- what is said of the errors, after which nothing changes but the number of word accesses
pub record RefusesUnchanged {A : Type 0} (before after : Checked) (answers : Type 0) (reply : Result A CheckedError) : Type 0 where
  -- exactly when each error but `NoRoom` is returned; the call's step says when that one is
  pub answer : answers
  -- at an error, chunks, blocks and payloads are as they were
  pub same : OnErr reply (after.heap.state ≡ before.heap.state)
  -- and so are the pools
  pub pools : OnErr reply (after.pools ≡ before.pools)
  -- and each byte of the memory
  pub bytes : OnErr reply (after.heap.memory.bytes ≡ before.heap.memory.bytes)

-- an error is returned exactly if `answer` says so, and then nothing changes
pub record RefusesUntouched (before after : Checked) (answers : Type 0) (reply : Result (Unit {0}) CheckedError) : Type 0 where
  -- when each error is returned
  pub answer : answers
  -- at an error, all is as it was
  pub same : OnErr reply (after ≡ before)

-- ---- what a call keeps in every case

-- of a call that copies no byte
pub record KeepsCheckedFrame (before after : Checked) : Type 0 where
  -- the chunks
  pub chunks : after.heap.state.chunks ≡ before.heap.state.chunks
  -- the pools
  pub pools : after.pools ≡ before.pools
  -- start and length of the memory, and where it lies
  pub place : SamePlace before.heap.memory after.heap.memory
  -- word accesses are only added
  pub grow : before.heap.memory.touches ≤ after.heap.memory.touches
  -- no byte is copied
  pub copied : after.heap.memory.copied ≡ before.heap.memory.copied

-- of a call that may move the payload at an address
pub record KeepsCheckedFrameMoving (addr : ℕ) (before after : Checked) : Type 0 where
  -- as many payloads are live as before
  pub count : live_count after.heap.state ≡ live_count before.heap.state
  -- the chunks
  pub chunks : after.heap.state.chunks ≡ before.heap.state.chunks
  -- the pools
  pub pools : after.pools ≡ before.pools
  -- start and length of the memory, and where it lies
  pub place : SamePlace before.heap.memory after.heap.memory
  -- word accesses are only added
  pub grow : before.heap.memory.touches ≤ after.heap.memory.touches
  -- no more bytes are copied than the payload had
  pub copied : after.heap.memory.copied ≤ before.heap.memory.copied + length (bytes_at before.heap.state addr)
  -- copied bytes are only added
  pub grow_copied : before.heap.memory.copied ≤ after.heap.memory.copied

-- of a call that changes the size or the bytes of the payload at an address in place, and copies no byte
pub record KeepsCheckedFrameInPlace (addr : ℕ) (before after : Checked) : Type 0 where
  -- all payloads have their addresses and alignments
  pub aligns : align_at after.heap.state ≡ align_at before.heap.state
  -- the other payloads have the bytes that they had
  pub bytes : (a : ℕ) → a ≢ addr → bytes_at after.heap.state a ≡ bytes_at before.heap.state a
  -- as many payloads are live as before
  pub count : live_count after.heap.state ≡ live_count before.heap.state
  -- the chunks
  pub chunks : after.heap.state.chunks ≡ before.heap.state.chunks
  -- the pools
  pub pools : after.pools ≡ before.pools
  -- start and length of the memory, and where it lies
  pub place : SamePlace before.heap.memory after.heap.memory
  -- word accesses are only added
  pub grow : before.heap.memory.touches ≤ after.heap.memory.touches
  -- no byte is copied
  pub copied : after.heap.memory.copied ≡ before.heap.memory.copied

-- of a call that copies `len` bytes to the payload at an address
pub record KeepsCheckedFrameCopying (addr len : ℕ) (before after : Checked) (reply : Result (Unit {0}) CheckedError) : Type 0 where
  -- all payloads have their addresses and alignments
  pub aligns : align_at after.heap.state ≡ align_at before.heap.state
  -- the other payloads have the bytes that they had
  pub bytes : (a : ℕ) → a ≢ addr → bytes_at after.heap.state a ≡ bytes_at before.heap.state a
  -- as many payloads are live as before
  pub count : live_count after.heap.state ≡ live_count before.heap.state
  -- the chunks
  pub chunks : after.heap.state.chunks ≡ before.heap.state.chunks
  -- the pools
  pub pools : after.pools ≡ before.pools
  -- start and length of the memory, and where it lies
  pub place : SamePlace before.heap.memory after.heap.memory
  -- if the call succeeds, so many bytes are copied
  pub copied : OnOk reply (after.heap.memory.copied ≡ before.heap.memory.copied + len)
