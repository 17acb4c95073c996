use Rattle.std.proofs.Common.{rules}
use Rattle.rlsf_trace_runs.proofs.runs.is_vacant.Goals as goal

pub returns-then-lies_in : goal.returns-then-lies_in
returns-then-lies_in c = search rules
