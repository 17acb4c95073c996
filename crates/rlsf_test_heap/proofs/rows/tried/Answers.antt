use Rattle.std.proofs.Common.{arith, ap, ◌∙◌}
use Rattle.rlsf_heap.specs.Heap.{HeapView}
use Rattle.rlsf_test_heap.proofs.OneChunk.{row_of_chunk}
use Rattle.rlsf_test_heap.proofs.rows.tried.Goals as goal

pub try_remove_pool-requires : goal.try_remove_pool-requires
try_remove_pool-requires c = (omega arith, row_of_chunk c.allocate.new.self.state (c.allocate.ensures.frame.chunks ∙ c.requires))

pub try_remove_pool-requires-2 : goal.try_remove_pool-requires-2
try_remove_pool-requires-2 c =
    let stays = ap (λ (v : HeapView). v.state.chunks) (c.try_remove_pool.ensures.refused c.if-try_remove_pool.false) in
    (omega arith, row_of_chunk c.deallocate.new.self.state (c.deallocate.ensures.frame.chunks ∙ stays ∙ c.allocate.ensures.frame.chunks ∙ c.requires))
