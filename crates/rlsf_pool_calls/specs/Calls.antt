-- What the calls return, and what they do to the map of live payloads.
use Rattle.std.specs.Prelude.{◌≡◌, ◌≢◌, ◌⊎◌, ◌↔◌, ℕ, ◌+◌, ◌<◌, ◌≤◌, true, List, length, take, drop, replicate, Option, Some, None, Result}
use Rattle.std.specs.List.{splice}
use Rattle.rlsf_base.specs.declared.memory.range.Range.{Range}
use Rattle.rlsf_base.specs.Range.{end_of, range_at}
use Rattle.rlsf_base.specs.Layout.{IsLayout}
use Rattle.rlsf_model.specs.Allocate as machine
use Rattle.rlsf_blocks.specs.Blocks.{walked}
use Rattle.rlsf_model.specs.Callers.{align_at, bytes_at, copied_over}
use Rattle.rlsf_model.specs.NoMove.{ReallocatesWithoutMove}
use Rattle.rlsf_model.specs.Reallocate.{Keeps, Reallocates}
use Rattle.rlsf_model.specs.Remove.{IsIdle, Removes}
use Rattle.rlsf_model.specs.Run.{Fills}
use Rattle.rlsf_checked.specs.Answers.{copy_answer, fits, if_in_range, if_live, is_within, size_refusal}
use Rattle.rlsf_checked.specs.Pools.{with_longer_last, with_pool, without_last, without_pool_at}
use Rattle.rlsf_checked.specs.Removal.{IsRemovalOf}
use Rattle.rlsf_checked.specs.declared.error.CheckedError.{CheckedError}
use Rattle.rlsf_checked.specs.declared.error.CheckedError.TheVariants.{OutOfMemory}
use Rattle.rlsf_pool_calls.specs.declared.answers.Answer.{Answer}
use Rattle.rlsf_pool_calls.specs.Answers.{answer_of, reply_code, error_code, answer_value, refused_by}
use Rattle.rlsf_pool_calls.specs.Seen.{Seen}

-- all payloads stay, with their alignments and their bytes
pub record KeepsSeenPayloads (before after : Seen) : Type 0 where
  pub classes : after.classes ≡ before.classes
  pub memory : after.memory ≡ before.memory
  pub aligns : align_at after.state ≡ align_at before.state
  pub bytes : bytes_at after.state ≡ bytes_at before.state

-- all payloads except the one at an address stay, and so do the ranges
pub record IsKeptBut (addr : ℕ) (before after : Seen) : Type 0 where
  pub classes : after.classes ≡ before.classes
  pub memory : after.memory ≡ before.memory
  pub pools : after.pools ≡ before.pools
  pub aligns : (a : ℕ) → a ≢ addr → align_at after.state a ≡ align_at before.state a
  pub bytes : (a : ℕ) → a ≢ addr → bytes_at after.state a ≡ bytes_at before.state a

-- the system may have no memory for the list of ranges: one is the last, and a range in the memory is behind it
abbrev pub MayLackMemory : Seen → Range → Type 0
MayLackMemory before r = (0 < before.pools.last.len) × (is_within before.memory r ≡ true) × (end_of before.pools.last ≤ r.start)

-- a range is inserted: what is returned, and the ranges then
pub record PoolInserts (expected : Result ℕ CheckedError) (before : Seen) (r : Range) (answer : Answer) (after : Seen) : Type 0 where
  pub told : (answer ≡ answer_of expected) ⊎ ((answer ≡ refused_by OutOfMemory) × MayLackMemory before r)
  pub kept : KeepsSeenPayloads before after
  pub pools : answer.error ≡ 0 → after.pools ≡ with_pool before.pools (range_at r.start answer.value)
  pub same : answer.error ≢ 0 → after ≡ before

-- a range is appended: what is returned, and the ranges then
pub record PoolAppends (expected : Result ℕ CheckedError) (before : Seen) (answer : Answer) (after : Seen) : Type 0 where
  pub told : answer ≡ answer_of expected
  pub kept : KeepsSeenPayloads before after
  pub pools : answer.error ≡ 0 → after.pools ≡ with_longer_last before.pools answer.value
  pub same : answer.error ≢ 0 → after ≡ before

-- a payload is new at an address
pub record IsNew (size align addr : ℕ) (before after : Seen) : Type 0 where
  pub new : align_at before.state addr ≡ None
  pub live : align_at after.state addr ≡ Some align
  pub sized : size ≤ length (bytes_at after.state addr)
  pub few : length (bytes_at after.state addr) < size + 32
  pub kept : IsKeptBut addr before after

-- an allocation is refused if there is no such layout; else it is refused if and only if the reference model refuses it
pub record PoolAllocates (before : Seen) (size align : ℕ) (answer : Answer) (after : Seen) : Type 0 where
  pub no_layout : (answer.error ≡ 9) ↔ (IsLayout size align → ⊥)
  pub errors : (answer.error ≡ 0) ⊎ ((answer.error ≡ 9) ⊎ (answer.error ≡ 10))
  pub step : IsLayout size align → machine.Allocates before.classes before.state size align (answer_value answer) after.state
  pub new : answer.error ≡ 0 → IsNew size align answer.value before after
  pub same : answer.error ≢ 0 → after ≡ before

-- a payload is deallocated, if one lives at the address
pub record PoolFrees (before : Seen) (addr answer : ℕ) (after : Seen) : Type 0 where
  pub told : answer ≡ reply_code (if_live (align_at before.state addr) tt)
  pub gone : align_at after.state addr ≡ None
  pub kept : IsKeptBut addr before after
  pub same : answer ≢ 0 → after ≡ before

-- a payload has another size, at its address or at one where none was, and its alignment; as many bytes as both sizes have are kept
pub record IsSeenResized (addr size to : ℕ) (before after : Seen) : Type 0 where
  pub live : align_at after.state to ≡ align_at before.state addr
  pub sized : size ≤ length (bytes_at after.state to)
  pub few : length (bytes_at after.state to) < size + 32
  pub kept : Keeps (bytes_at before.state addr) (bytes_at after.state to)
  pub new : to ≢ addr → align_at before.state to ≡ None
  pub left : to ≢ addr → align_at after.state addr ≡ None
  pub aligns : (a : ℕ) → a ≢ addr → a ≢ to → align_at after.state a ≡ align_at before.state a
  pub bytes : (a : ℕ) → a ≢ addr → a ≢ to → bytes_at after.state a ≡ bytes_at before.state a
  pub classes : after.classes ≡ before.classes
  pub memory : after.memory ≡ before.memory
  pub pools : after.pools ≡ before.pools

-- the refusal that is reported is the answer; if none is, only room may be missing
abbrev pub IsReportedAs : Option CheckedError → ℕ → Type 0
IsReportedAs (Some e) error = error ≡ error_code e
IsReportedAs None error = (error ≡ 0) ⊎ (error ≡ 10)

-- a payload gets another size, or why it doesn't
pub record PoolResizes (before : Seen) (addr size : ℕ) (answer : Answer) (after : Seen) : Type 0 where
  pub told : IsReportedAs (size_refusal (align_at before.state addr) size) answer.error
  pub step : size_refusal (align_at before.state addr) size ≡ None → Reallocates before.classes before.state addr size (answer_value answer) after.state
  pub resized : answer.error ≡ 0 → IsSeenResized addr size answer.value before after
  pub same : answer.error ≢ 0 → after ≡ before

-- a payload gets another size where it stands, or why it doesn't
pub record PoolResizesThere (before : Seen) (addr size : ℕ) (answer : Answer) (after : Seen) : Type 0 where
  pub told : IsReportedAs (size_refusal (align_at before.state addr) size) answer.error
  pub step : size_refusal (align_at before.state addr) size ≡ None → ReallocatesWithoutMove before.state addr size (answer_value answer) after.state
  pub there : answer.error ≡ 0 → answer.value ≡ addr
  pub resized : answer.error ≡ 0 → IsSeenResized addr size addr before after
  pub same : answer.error ≢ 0 → after ≡ before

-- how many bytes the caller of a payload may use, if one lives at the address
abbrev pub Tells : Seen → ℕ → Answer → Type 0
Tells before addr answer = answer ≡ answer_of (if_live (align_at before.state addr) (length (bytes_at before.state addr)))

-- 0, or why so many bytes from an offset on aren't those of a payload
abbrev pub reach : Seen → ℕ → ℕ → ℕ → ℕ
reach before addr offset len = reply_code (if_in_range (align_at before.state addr) (fits offset len (bytes_at before.state addr)))

-- bytes are read, if there are so many
pub record Reads (before : Seen) (addr offset : ℕ) (was : List ℕ) (answer : ℕ) (now : List ℕ) : Type 0 where
  pub told : answer ≡ reach before addr offset (length was)
  pub read : answer ≡ 0 → now ≡ take (length was) (drop offset (bytes_at before.state addr))
  pub same : answer ≢ 0 → now ≡ was

-- bytes are written, if there are so many, and all else stays
pub record PoolWrites (before : Seen) (addr offset : ℕ) (bytes : List ℕ) (answer : ℕ) (after : Seen) : Type 0 where
  pub told : answer ≡ reach before addr offset (length bytes)
  pub written : answer ≡ 0 → bytes_at after.state addr ≡ splice (bytes_at before.state addr) offset (offset + length bytes) bytes
  pub aligns : align_at after.state ≡ align_at before.state
  pub kept : IsKeptBut addr before after
  pub same : answer ≢ 0 → after ≡ before

-- the first bytes of one payload are copied over those of another, if there are so many, and all else stays
pub record PoolCopies (before : Seen) (from to len answer : ℕ) (after : Seen) : Type 0 where
  pub told : answer ≡ reply_code (copy_answer before.state from to len)
  pub copied : answer ≡ 0 → bytes_at after.state to ≡ copied_over before.state from to len
  pub aligns : align_at after.state ≡ align_at before.state
  pub kept : IsKeptBut to before after
  pub same : answer ≢ 0 → after ≡ before

-- as many zeros as the payload at an address has bytes
abbrev pub zeros_for : Seen → ℕ → List ℕ
zeros_for v addr = replicate (length (bytes_at v.state addr)) 0

-- all bytes of a payload become zeros, and all else stays
pub record Zeroes (before : Seen) (addr : ℕ) (after : Seen) : Type 0 where
  pub step : Fills before.state addr (zeros_for before addr) after.state
  pub zeros : bytes_at after.state addr ≡ zeros_for before addr
  pub aligns : align_at after.state ≡ align_at before.state
  pub kept : IsKeptBut addr before after

-- an allocation, after which the payload's bytes become zeros
pub record PoolAllocatesZeroed (before : Seen) (size align : ℕ) (answer : Answer) (after : Seen) : Type 0 where
  pub middle : Seen
  pub allocated : PoolAllocates before size align answer middle
  pub zeroed : answer.error ≡ 0 → Zeroes middle answer.value after
  pub new : answer.error ≡ 0 → IsNew size align answer.value before after
  pub zeros : answer.error ≡ 0 → bytes_at after.state answer.value ≡ zeros_for after answer.value
  pub same : answer.error ≢ 0 → after ≡ before

-- the last range is removed exactly if no payload lives in it; then the last range is empty, at the same start
pub record RemovesLast (before : Seen) (answer : ℕ) (after : Seen) : Type 0 where
  pub errors : (answer ≡ 0) ⊎ (answer ≡ 15)
  pub idle : (answer ≡ 0) ↔ IsIdle before.state (walked before.pools.last)
  pub step : answer ≡ 0 → Removes before.state (walked before.pools.last) after.state
  pub kept : KeepsSeenPayloads before after
  pub pools : answer ≡ 0 → after.pools ≡ without_last before.pools
  pub same : answer ≢ 0 → after ≡ before

-- a range is removed if it was inserted and no payload lives in it, or why it isn't; and the ranges then
pub record RemovesRange (before : Seen) (r : Range) (answer : ℕ) (after : Seen) : Type 0 where
  pub told : (e : Result (Unit {0}) CheckedError) × (answer ≡ reply_code e) × IsRemovalOf before.pools before.state r e
  pub step : answer ≡ 0 → Removes before.state (walked r) after.state
  pub kept : KeepsSeenPayloads before after
  pub pools : answer ≡ 0 → after.pools ≡ without_pool_at before.pools r.start
  pub same : answer ≢ 0 → after ≡ before
