use Rattle.std.proofs.Common.{rules}
use Rattle.rlsf_trace_runs.proofs.traces.watch_ops.Goals as goal

pub returns-in-OneByOne : goal.returns-in-OneByOne
returns-in-OneByOne c = record {
  ok = search rules;
  err = search rules;
}
