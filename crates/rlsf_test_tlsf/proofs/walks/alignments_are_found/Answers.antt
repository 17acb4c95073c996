use Rattle.rlsf_base.specs.Range.{range_at}
use Rattle.rlsf_model.proofs.ChunkRows.{IsRow-same}
use Rattle.rlsf_test_tlsf.proofs.walks.alignments_are_found.Goals as goal

pub frees-requires-in-loop-size : goal.frees-requires-in-loop-size
frees-requires-in-loop-size g c = IsRow-same c.growing-tlsf.result.state c.allocate.new.self.state (range_at 4096 16384) c.allocate.ensures.frame.chunks c.growing-tlsf.ensures
