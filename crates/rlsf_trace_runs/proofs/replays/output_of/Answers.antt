use Rattle.std.proofs.Common.{rules, refl}
use Rattle.rlsf_trace_text.specs.Reading.{trace_text}
use Rattle.rlsf_trace_runs.proofs.replays.output_of.Goals as goal

pub returns-clause-ok : goal.returns-clause-ok
returns-clause-ok c =
    let (answers, ran, printed) = c.in_ok-text_for.ensures.ok in
    record {
      trace = trace_text c.in_ok-trace.trace;
      read = search rules;
      ops = c.in_ok-trace.trace.ops.items;
      asked = refl;
      answers = answers;
      ran = ran;
      printed = printed;
    }
