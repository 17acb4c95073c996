use Rattle.std.proofs.Common.{arith}
use Rattle.std.proofs.lemmas.Grind.{common_steps}
use Rattle.rlsf_trace_text.proofs.printing.print_block.Goals as goal

pub returns-in-Some-default-false : goal.returns-in-Some-default-false
returns-in-Some-default-false c = grind (arith, common_steps)
