use Rattle.std.proofs.Common.{rules}
use Rattle.rlsf_trace_text.specs.Reading.{trace_in}
use Rattle.rlsf_trace_text.proofs.parse.Trace.read.Goals as goal

pub returns-in_err-ops : goal.returns-in_err-ops
unfolding trace_in
returns-in_err-ops c = search rules
