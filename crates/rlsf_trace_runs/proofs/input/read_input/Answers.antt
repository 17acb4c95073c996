use Rattle.std.proofs.Common.{rules}
use Rattle.rlsf_trace_runs.proofs.input.read_input.Goals as goal

pub returns-then-ne : goal.returns-then-ne
returns-then-ne g c = record {
  bytes = tt;
  end = tt;
  fault = search rules;
}
