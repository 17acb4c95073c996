use Rattle.std.proofs.Common.{rules}
use Rattle.rlsf_trace_text.proofs.fault.Fault.at_line.Goals as goal

pub returns : goal.returns
returns c = search rules
