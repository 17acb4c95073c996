use Rattle.std.proofs.Common.{arith}
use Rattle.std.specs.Int.{w32}
use Rattle.rlsf_int.proofs.Unsigned.{zeros_above}
use Rattle.rlsf_int.proofs.impls.u32.U32BinInteger.leading_zeros.Goals as goal

pub returns : goal.returns
returns c = zeros_above w32 c.args.self.now (omega arith)
