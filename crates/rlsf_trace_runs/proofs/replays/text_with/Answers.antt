use Rattle.std.proofs.Common.{subst}
use Rattle.std.specs.Prelude.{string_bytes}
use Rattle.rlsf_base.specs.Range.{range_at}
use Rattle.rlsf_base.specs.Space.{range_of}
use Rattle.rlsf_trace_runs.specs.Replays.{IsPrintedRun}
use Rattle.rlsf_trace_runs.proofs.WiderMemory.{all_done}
use Rattle.rlsf_trace_runs.proofs.replays.text_with.Goals as goal

pub returns-clause-ok : goal.returns-clause-ok
returns-clause-ok g c =
    let memory = range_at c.args.trace.now.start c.args.trace.now.len in
    let (inside, has) = c.requires.part in
    let (answers, (last, ran), printed) =
    subst (λ l. IsPrintedRun g.row.FLLEN g.row.SLLEN (range_of c.args.tlsf.memory) l (string_bytes c.in_ok-print_run.field-0)) c.deref.ensures.value c.in_ok-print_run.ensures in
    (answers, (last, all_done memory (range_of c.args.tlsf.memory) inside g.row.FLLEN g.row.SLLEN _ _ _ _ has ran), printed)
