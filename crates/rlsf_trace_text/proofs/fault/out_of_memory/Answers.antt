use Rattle.std.proofs.Common.{rules}
use Rattle.rlsf_trace_text.proofs.fault.out_of_memory.Goals as goal

pub returns : goal.returns
returns c = search rules
