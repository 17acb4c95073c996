use Rattle.std.proofs.Common.{rules}
use Rattle.rlsf_base.proofs.memory.layout.Layout.align.Goals as goal

pub returns-clause-value : goal.returns-clause-value
returns-clause-value c = search rules
