use Rattle.std.proofs.Common.{◌≡◌, ◌+◌, ◌-◌, ◌≤◌, ◌++◌, length, List}
use Rattle.std.specs.Vec.{vec_len, vec_capacity}
use Rattle.rlsf_trace_text.specs.declared.op.Answer.{Answer}
use Rattle.rlsf_trace_flex_runs.proofs.OpsDone.{IsUnderway}
use Rattle.rlsf_trace_flex_runs.proofs.runs.run_flex.Given as goal

abbrev pub invariant-loop-op : goal.invariant-loop-op
invariant-loop-op g l =
    ((given : List Answer) × (l.answers.items ≡ l.fn.answers.items ++ given)
    × IsUnderway g.row.FLLEN g.row.SLLEN g.S.FlexSource.terms g.S.FlexSource.owes g.S.FlexSource.leads l.fn.flex l.fn.ops l.flex l.names l.op-index given)
    × (vec_len l.answers + (length l.fn.ops - l.op-index) ≤ vec_capacity l.answers)
