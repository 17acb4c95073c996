use Rattle.std.proofs.Common.{lit<}
use Rattle.rlsf_base.specs.Range.{range_at}
use Rattle.rlsf_model.proofs.ChunkRows.{IsRow-same}
use Rattle.rlsf_test_tlsf.proofs.walks.free_bytes_are_added_up.Goals as goal

pub iter_blocks-requires-2 : goal.iter_blocks-requires-2
iter_blocks-requires-2 g c = (lit< tt, IsRow-same c.wide-tlsf.result.state c.allocate.new.self.state (range_at 4096 1024) c.allocate.ensures.frame.chunks c.wide-tlsf.ensures)
