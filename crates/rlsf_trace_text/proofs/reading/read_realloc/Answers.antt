use Rattle.std.proofs.Common.{rules}
use Rattle.rlsf_trace_text.specs.Reading.{realloc_in}
use Rattle.rlsf_trace_text.proofs.reading.read_realloc.Goals as goal

pub returns : goal.returns
unfolding realloc_in
returns c = search rules
