use Rattle.std.proofs.Common.{◌-◌, length}
use Rattle.rlsf_base.specs.Steps.Fronts.{HasFront}
use Rattle.rlsf_base.proofs.memory.copying.write_units.Given as goal

abbrev pub invariant-loop-unit : goal.invariant-loop-unit
invariant-loop-unit g l = HasFront l.fn.bytes l.bytes l.fn.from l.index

abbrev pub decreases-loop-unit : goal.decreases-loop-unit
decreases-loop-unit g l = length l.fn.from - l.index
