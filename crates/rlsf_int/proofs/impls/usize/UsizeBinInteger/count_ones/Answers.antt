use Rattle.std.proofs.Common.{arith}
use Rattle.rlsf_int.proofs.Unsigned.{count_is}
use Rattle.rlsf_int.proofs.impls.usize.UsizeBinInteger.count_ones.Goals as goal

pub returns-clause-count : goal.returns-clause-count
returns-clause-count c = count_is c.args.self.now 64 (omega arith)
