-- What no call of an allocator of collections changes of its heap.
use Rattle.std.specs.Prelude.{ℕ, List}
use Rattle.rlsf_base.specs.declared.memory.range.Range.{Range}
use Rattle.rlsf_model_sizes.specs.Sizes.{max_pool_size}
use Rattle.rlsf_heap.specs.Heap.{HeapView, Identity}
use Rattle.rlsf_model.specs.Insert.{aligned_part, cut, with_chunks}
use Rattle.rlsf_model.specs.State.{empty}

-- which heap it is, and its chunks
pub record Constants : Type 0 where
  pub heap : Identity
  pub chunks : List Range

-- those of a heap
abbrev pub constants_of : HeapView → Constants
constants_of h = record { heap = h.identity; chunks = h.state.chunks }

-- the chunks of a heap into which a range was inserted, and no other
abbrev pub chunks_of_range : ℕ → Range → List Range
chunks_of_range fllen r = (with_chunks (cut (max_pool_size fllen) (aligned_part r)) empty).chunks
