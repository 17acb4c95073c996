use Rattle.std.proofs.Common.{sym, subst}
use Rattle.rlsf_base.specs.Range.{range_at}
use Rattle.rlsf_trace_runs.specs.Parts.{IsPartFor}
use Rattle.rlsf_trace_runs.proofs.replays.memory_of.Goals as goal

pub returns-clause-ok : goal.returns-clause-ok
returns-clause-ok c =
    subst (IsPartFor (range_at c.args.trace.now.start c.args.trace.now.len) c.args.trace.now.ops.items) (sym c.in_ok-zeroed.ensures.ok)
    (subst (λ l. IsPartFor (range_at c.args.trace.now.start c.args.trace.now.len) l c.part_for.result) c.deref.ensures.value c.part_for.ensures)
