-- Heaps over ranges of one memory.
use Rattle.std.specs.Prelude.{◌≡◌, ℕ, ◌+◌, List, Some, None}
use Rattle.rlsf_base.specs.declared.memory.range.Range.{Range}
use Rattle.rlsf_base.specs.Range.{range_at}
use Rattle.rlsf_model.specs.Callers.{align_at}
use Rattle.rlsf_model.specs.Sized.{live_count}
use Rattle.rlsf_heap.specs.Heap.{HeapView, Identity}
use Rattle.rlsf_heap.specs.Units.{payload_len}
use Rattle.rlsf_local_heap.specs.Constants.{chunks_of_range}
use Rattle.rlsf_local_heap.specs.declared.lease.Lease.{Lease}

-- the heap whose payload a memory was made of
abbrev pub lessor : Lease → Identity
lessor l = record { home = l.home; ledger = l.name }

-- a heap was made over a range of another one's memory, which is a payload of that one
pub record IsLet (fllen : ℕ) (before after : HeapView) (len : ℕ) (lease : Lease) (chunks : List Range) : Type 0 where
  -- it is that heap's range
  pub tenant : lessor lease ≡ before.identity
  -- it has the length of a payload for so many bytes
  pub long : lease.memory.len ≡ payload_len len
  -- it is the only pool of the new heap
  pub pool : chunks ≡ chunks_of_range fllen (range_at 64 (payload_len len))
  -- no payload was live there
  pub new : align_at before.state lease.start ≡ None
  -- now one is
  pub live : align_at after.state lease.start ≡ Some 16
  -- one more payload is live
  pub count : live_count after.state ≡ live_count before.state + 1
