use Rattle.std.proofs.Common.{◌∙◌}
use Rattle.rlsf_int.proofs.Bits.{range_truncated}
use Rattle.rlsf_int.proofs.int.BinInteger.ones_truncated.Goals as goal

pub returns : goal.returns
returns g c i = c.ones.ensures i ∙ range_truncated c.args.range.start c.args.range.end _ _ _ i _ _ c.BITS.ensures c.BITS-2.ensures c.min.ensures c.min-2.ensures
