use Rattle.std.proofs.Common.{◌≡◌, ◌-◌, ◌%◌, ◌≤◌}
use Rattle.rlsf_base.specs.Steps.Fronts.{HasCopied}
use Rattle.rlsf_base.proofs.memory.copying.copy_units.Given as goal

abbrev pub ghost-recount : goal.ghost-recount
ghost-recount g a = g.out

abbrev pub invariant-loop-index : goal.invariant-loop-index
invariant-loop-index g l = (l.index ≤ l.pairs) × ((l.pairs - l.index) % 32 ≡ 0) × HasCopied l.fn.bytes l.bytes l.fn.from l.fn.to l.index

abbrev pub decreases-loop-index : goal.decreases-loop-index
decreases-loop-index g l = l.pairs - l.index
