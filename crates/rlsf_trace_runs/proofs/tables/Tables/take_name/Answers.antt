use Rattle.std.proofs.Common.{rules}
use Rattle.rlsf_trace_runs.proofs.tables.Tables.take_name.Goals as goal

pub returns : goal.returns
returns c = record {
  value = search rules;
  names = search rules;
  pools = search rules;
  room = search rules;
}
