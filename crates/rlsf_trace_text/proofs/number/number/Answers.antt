use Rattle.std.proofs.Common.{rules}
use Rattle.rlsf_trace_text.specs.Numbers.{number_of}
use Rattle.rlsf_trace_text.proofs.number.number.Goals as goal

pub returns : goal.returns
unfolding number_of
returns c = search rules
