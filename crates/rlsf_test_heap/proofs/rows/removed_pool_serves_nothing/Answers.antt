use Rattle.std.proofs.Common.{arith, refl}
use Rattle.rlsf_base.specs.Range.{range_at}
use Rattle.rlsf_test_heap.proofs.OneChunk.{idle_chunk, is_chunk, row_of_chunk}
use Rattle.rlsf_test_heap.proofs.rows.removed_pool_serves_nothing.Goals as goal

pub iter_blocks-requires : goal.iter_blocks-requires
iter_blocks-requires g c = (omega arith, row_of_chunk c.with_chunk-heap.result.state c.with_chunk-heap.ensures.chunk)

pub chunk_end-requires : goal.chunk_end-requires
chunk_end-requires g c = (omega arith, (range_at 4096 256, is_chunk c.with_chunk-heap.result.state c.with_chunk-heap.ensures.chunk, refl))

pub remove_pool-requires : goal.remove_pool-requires
remove_pool-requires g c =
    (omega arith, (row_of_chunk c.with_chunk-heap.result.state c.with_chunk-heap.ensures.chunk, idle_chunk c.with_chunk-heap.result.state c.with_chunk-heap.ensures.idle))
