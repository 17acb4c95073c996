use Rattle.std.proofs.Common.{arith}
use Rattle.rlsf_int.proofs.Unsigned.{all_low, some_low}
use Rattle.rlsf_int.proofs.impls.lowest.Goals as goal

pub returns-then-len-ge32 : goal.returns-then-len-ge32
returns-then-len-ge32 c i = all_low c.args.n c.args.len i (omega arith) (omega arith)

pub returns-else-len-ge32 : goal.returns-else-len-ge32
returns-else-len-ge32 c i = some_low c.args.n c.args.len i (omega arith)
