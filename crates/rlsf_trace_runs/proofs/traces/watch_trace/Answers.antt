use Rattle.std.proofs.Common.{rules}
use Rattle.rlsf_trace_runs.proofs.traces.watch_trace.Goals as goal

pub returns : goal.returns
returns c = record {
  ok = search rules;
  err = search rules;
}
