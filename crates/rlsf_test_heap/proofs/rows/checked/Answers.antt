use Rattle.std.proofs.Common.{arith, ◌∙◌}
use Rattle.rlsf_test_heap.proofs.OneChunk.{row_of_chunk}
use Rattle.rlsf_test_heap.proofs.rows.checked.Goals as goal

pub is_consistent-while_out-requires : goal.is_consistent-while_out-requires
is_consistent-while_out-requires c = (omega arith, row_of_chunk c.allocate.new.self.state (c.allocate.ensures.frame.chunks ∙ c.requires))

pub is_consistent-requires : goal.is_consistent-requires
is_consistent-requires c =
    (omega arith, row_of_chunk c.deallocate.new.self.state (c.deallocate.ensures.frame.chunks ∙ c.allocate.ensures.frame.chunks ∙ c.requires))
