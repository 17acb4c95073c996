use Rattle.std.proofs.Common.{arith}
use Rattle.std.specs.Int.{w64}
use Rattle.rlsf_int.proofs.Unsigned.{no_ones, ones_between}
use Rattle.rlsf_int.proofs.impls.u64.U64BinInteger.ones.Goals as goal

pub returns-then-range : goal.returns-then-range
returns-then-range c i = no_ones c.args.range.start c.args.range.end i (omega arith)

pub returns-else-range : goal.returns-else-range
returns-else-range c i = ones_between w64 c.args.range.start c.args.range.end i (omega arith) (omega arith)
