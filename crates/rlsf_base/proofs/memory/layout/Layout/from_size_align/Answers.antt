use Rattle.std.proofs.Common.{rules}
use Rattle.rlsf_base.proofs.memory.layout.Layout.from_size_align.Goals as goal

pub invariant_of-result : goal.invariant_of-result
invariant_of-result c = search rules
