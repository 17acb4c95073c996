use Rattle.rlsf_test_heap.proofs.OneChunk.{one_chunk}
use Rattle.rlsf_test_heap.proofs.rows.with_chunk.Goals as goal

pub returns-clause-chunk : goal.returns-clause-chunk
returns-clause-chunk g c = (one_chunk c.new-heap.result c.insert_free_block.new.self c.new-heap.ensures.state c.insert_free_block.ensures.step).0

pub returns-clause-idle : goal.returns-clause-idle
returns-clause-idle g c = (one_chunk c.new-heap.result c.insert_free_block.new.self c.new-heap.ensures.state c.insert_free_block.ensures.step).1
