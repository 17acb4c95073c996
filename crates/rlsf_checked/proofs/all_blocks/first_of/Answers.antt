use Rattle.std.proofs.Common.{rules}
use Rattle.rlsf_checked.proofs.all_blocks.first_of.Goals as goal

pub loop-block-preserved : goal.loop-block-preserved
loop-block-preserved c = search rules
