-- The iteration is at an address where a chunk of the range begins, or at the end of the last.
use Rattle.std.proofs.Common.{ℕ, ◌-◌}
use Rattle.rlsf_base.specs.Range.{end_of}
use Rattle.rlsf_model.specs.FlexWellFormed.{IsPool}
use Rattle.rlsf_flex.proofs.RangeRows.{IsEdge}
use Rattle.rlsf_flex.proofs.trim.pool_len.Given as goal

abbrev pub invariant-loop-end : goal.invariant-loop-end
invariant-loop-end g l = (len : ℕ) → IsPool l.tlsf.state l.range len → IsEdge l.tlsf.state l.range len l.end

abbrev pub decreases-loop-end : goal.decreases-loop-end
decreases-loop-end g l = end_of l.range - l.end
