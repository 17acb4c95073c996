-- Pools that blocks of one length fill from their start, as a partition and its heap keep them.
use Rattle.std.specs.Prelude.{◌≡◌, ℕ, ◌+◌, ◌*◌, ◌≤◌}
use Rattle.rlsf_base.specs.declared.memory.range.Range.{Range}
use Rattle.rlsf_model_sizes.specs.SizeClass.{Reaches, class_of}
use Rattle.rlsf_model_sizes.specs.Sizes.{request_size}
use Rattle.rlsf_heap.specs.Heap.{HeapView, Stands}
use Rattle.rlsf_model.specs.Sized.{live_count}
use Rattle.rlsf_model.specs.State.{State}
use Rattle.rlsf_model.specs.Uniform.{IsUniform}

-- a chunk has room for `count` blocks for payloads of this size, which fill it from its start
unfoldable pub HasTiles : State → ℕ → ℕ → Type 0
HasTiles s asked count = (c : Range) × IsUniform (request_size asked 16) c s × (count * request_size asked 16 + 32 ≤ c.len)

-- a heap whose payloads are all requested with the size `asked`, and of which at most `count` are live
pub record IsPartition (v : HeapView) (asked align size count : ℕ) : Type 0 where
  pub stands : Stands 59 8 v
  pub narrow : align ≡ 16
  pub enough : size ≤ asked
  pub begins : Reaches 8 (class_of 8 (request_size asked 16)) (request_size asked 16)
  pub within : live_count v.state ≤ count
  pub room : 1 ≤ count → HasTiles v.state asked count
