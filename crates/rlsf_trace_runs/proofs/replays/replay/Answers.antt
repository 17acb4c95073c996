use Rattle.std.proofs.Common.{rules}
use Rattle.rlsf_trace_runs.proofs.replays.replay.Goals as goal

pub returns-in_err-text : goal.returns-in_err-text
returns-in_err-text g c = record {
  ok = search rules;
  end = search rules;
  fault = search rules;
  read = search rules;
  silent = search rules;
  beginning = search rules;
}

pub returns : goal.returns
returns g c = record {
  ok = search rules;
  end = search rules;
  fault = search rules;
  read = search rules;
  silent = search rules;
  beginning = search rules;
}
