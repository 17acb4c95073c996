use Rattle.std.proofs.Common.{◌-◌, length}
use Rattle.rlsf_base.specs.Steps.Fronts.{HasFront}
use Rattle.rlsf_base.proofs.memory.copying.write_rest.Given as goal

abbrev pub invariant-loop-index : goal.invariant-loop-index
invariant-loop-index l = HasFront l.fn.bytes l.bytes l.fn.from l.index

abbrev pub decreases-loop-index : goal.decreases-loop-index
decreases-loop-index l = length l.fn.from - l.index
