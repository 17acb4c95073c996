-- Bytes that are lent to a heap, and returned.
use Rattle.std.specs.Prelude.{◌≡◌, ◌+◌, ◌<◌, ℕ, ◌≤◌, [], List, Option, IfNone, IfSome, length}
use Rattle.std.specs.declared.num.NonZeroUsize.{NonZeroUsize}
use Rattle.rlsf_base.specs.Addr.{at}
use Rattle.rlsf_base.specs.declared.memory.range.Range.{Range}
use Rattle.rlsf_base.specs.MemoryCalls.{CountsNothing, IsTakenOut}
use Rattle.rlsf_base.specs.OpenSpace.{IsAway, IsBeside, IsOwned}
use Rattle.rlsf_base.specs.Piece.{IsFull, Piece, piece_range}
use Rattle.rlsf_base.specs.Range.{AreApart, end_of, range_at}
use Rattle.rlsf_model_sizes.specs.Rounding.{round32}
use Rattle.rlsf_base.specs.Space.{bytes_in, out_at}
use Rattle.rlsf_model.specs.Callers.{align_at}
use Rattle.rlsf_model.specs.ChunkRows.{IsRow}
use Rattle.rlsf_model.specs.Insert.{IsUntouched}
use Rattle.rlsf_model.specs.Remove.{Removes}
use Rattle.rlsf_model.specs.Sized.{live_count}
use Rattle.rlsf_model.specs.WellFormed.{coverage, itself}
use Rattle.rlsf_blocks.specs.Blocks.{walked}
use Rattle.rlsf_heap.specs.Heap.{HeapView}
use Rattle.rlsf_heap.specs.Kept.{KeepsBytesBeside}
use Rattle.rlsf_heap.specs.Settled.{IsSettled}

-- each byte beside a range is here, raw or out, as it was
unfoldable pub KeepsStatesBeside : HeapView → HeapView → Range → Type 0
KeepsStatesBeside before after r = (a : ℕ) → before.memory.start ≤ a → IsBeside r a → out_at after.memory a ≡ out_at before.memory a

-- a heap, of which bytes in no chunk are lent or returned
pub record ChangesOutside (before after : HeapView) (r : Range) : Type 0 where
  -- it is the same heap
  pub identity : after.identity ≡ before.identity
  -- over the same memory
  pub place : (after.memory.start ≡ before.memory.start) × (length after.memory.bytes ≡ length before.memory.bytes) × (after.memory.view ≡ before.memory.view)
  -- its bytes are lent to it in ranges, if they were
  pub lent : after.lent ≡ before.lent
  -- it has the same chunks, payloads and free blocks
  pub state : after.state ≡ before.state
  -- the bytes beside the range stay, with their values
  pub beside : KeepsStatesBeside before after r
  pub values : KeepsBytesBeside before after r
  -- nothing is counted
  pub counts : CountsNothing before.memory after.memory

-- the bytes of a part are lent to the heap
pub record IsLentTo (before after : HeapView) (p : Piece) : Type 0 where
  pub heap : ChangesOutside before after (piece_range p)
  -- they weren't the heap's
  pub away : IsAway before.memory (piece_range p)
  -- they are, with the values that they have in the part
  pub own : IsOwned after.memory (piece_range p)
  pub values : bytes_in after.memory (piece_range p) ≡ p.bytes
  -- if no byte of the memory was raw, none is
  pub settled : IsSettled before.memory → IsSettled after.memory

-- the bytes of a range are returned, as a part
pub record IsReclaimed (before after : HeapView) (r : Range) (p : Piece) : Type 0 where
  pub heap : ChangesOutside before after r
  -- with the values and states that they had
  pub part : IsTakenOut before.memory r p
  pub home : p.home ≡ before.identity.home
  -- with values, if no byte of the memory was raw
  pub full : IsSettled before.memory → IsFull p
  -- they aren't the heap's any more
  pub away : IsAway after.memory r
  -- if no byte of the memory was raw, none is
  pub settled : IsSettled before.memory → IsSettled after.memory

-- a range has a pool of so many bytes from its start on: contiguous chunks from the start rounded up to a multiple of 32. No other chunk
-- overlaps the range
unfoldable pub HasPool : List Range → Range → ℕ → Type 0
HasPool chunks r n =
    (n ≤ r.len) × IsRow (record { chunks = chunks; used = []; free = [] }) (walked (range_at r.start n))
    × ((a : ℕ) → r.start ≤ a → a < end_of r → 0 < coverage itself chunks a → (round32 r.start ≤ a) × (a < r.start + n))

-- the pools of ranges that don't overlap a range stay
abbrev pub KeepsPools : List Range → List Range → Range → Type 0
KeepsPools before after r = (p : Range) (n : ℕ) → HasPool before p n → AreApart r p → HasPool after p n

-- a range has a pool of the bytes that were taken, and none where it makes no chunk; other pools stay
abbrev pub InsertsPool : List Range → List Range → Range → Option NonZeroUsize → Type 0
InsertsPool before after r taken = IfSome taken (λ n. HasPool after r (at n)) × IfNone taken (HasPool after r 0) × KeepsPools before after r

-- it is the same heap, over the same memory, to which bytes are lent in ranges, if they were
abbrev pub KeepsPlace : HeapView → HeapView → Type 0
KeepsPlace before after =
    (after.identity ≡ before.identity) × (after.memory.start ≡ before.memory.start) × (length after.memory.bytes ≡ length before.memory.bytes)
    × (after.lent ≡ before.lent)

-- the pool of a range, of so many bytes, is removed, and all bytes of the range are returned, as a part
pub record ReclaimsPool (before after : HeapView) (r : Range) (n : ℕ) (p : Piece) : Type 0 where
  -- without these chunks
  pub removes : Removes before.state (walked (range_at r.start n)) after.state
  pub gone : IsUntouched after.state.chunks r
  -- with the same payloads
  pub aligns : align_at after.state ≡ align_at before.state
  pub count : live_count after.state ≡ live_count before.state
  -- the bytes are those of the range, with values, if no byte of the memory was raw
  pub home : p.home ≡ before.identity.home
  pub start : p.start ≡ r.start
  pub len : length p.bytes ≡ r.len
  pub full : IsSettled before.memory → IsFull p
  -- they aren't the heap's any more
  pub away : IsAway after.memory r
  -- if no byte of the memory was raw, none is
  pub settled : IsSettled before.memory → IsSettled after.memory
