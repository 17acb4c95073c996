use Rattle.std.proofs.Common.{◌*◌, ◌^◌, ◌≤◌}
use Rattle.rlsf_trace_runs.proofs.Passing.{IsPassing}
use Rattle.rlsf_trace_runs.proofs.watched.watch.Given as goal

-- the first ops were done, and their moments are not too great to count
abbrev pub invariant-loop-op : goal.invariant-loop-op
invariant-loop-op g l =
    IsPassing g.row.FLLEN g.row.SLLEN l.fn.tlsf.memory l.fn.ops l.tlsf l.tables l.moment l.op-index l.answers.items l.moments.items
    × (l.moment.live ≤ l.op-index) × (l.moment.usable ≤ l.op-index * 2 ^ 64)
