use Rattle.std.proofs.Common.{◌∙◌, arith}
use Rattle.rlsf_base.proofs.memory.counters.Counters.count_touch.Goals as goal

pub returns : goal.returns
returns c = (c.count.ensures.0, c.count.ensures.1 ∙ omega arith)
