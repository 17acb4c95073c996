use Rattle.std.proofs.Common.{lit<, ◌∙◌}
use Rattle.rlsf_base.specs.Range.{range_at}
use Rattle.rlsf_model.proofs.ChunkRows.{IsRow-same}
use Rattle.rlsf_test_tlsf.proofs.walks.frees.Goals as goal

pub iter_blocks-blocks-requires : goal.iter_blocks-blocks-requires
iter_blocks-blocks-requires g c = (
  lit< tt,
  IsRow-same c.args.tlsf.now.state c.deallocate_unknown_align.new.self.state (range_at 4096 16384)
      (c.deallocate_unknown_align.ensures.frame.chunks ∙ c.in-Some.ensures.frame.chunks) c.requires,
)
