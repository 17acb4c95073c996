use Rattle.std.proofs.Common.{◌∙◌}
use Rattle.rlsf_base.specs.Range.{range_at}
use Rattle.rlsf_model.proofs.ChunkRows.{IsRow-same}
use Rattle.rlsf_test_tlsf.proofs.collections.drawing.two_payloads.Goals as goal

pub returns : goal.returns
returns g c =
    IsRow-same c.with_pool-tlsf.result.state c.allocate-2.new.self.state (range_at 4096 256) (c.allocate-2.ensures.frame.chunks ∙ c.allocate.ensures.frame.chunks)
    c.with_pool-tlsf.ensures
