use Rattle.std.proofs.Common.{arith}
use Rattle.std.specs.Int.{w8}
use Rattle.rlsf_int.proofs.Unsigned.{zeros_above}
use Rattle.rlsf_int.proofs.impls.u8.U8BinInteger.leading_zeros.Goals as goal

pub returns : goal.returns
returns c = zeros_above w8 c.args.self.now (omega arith)
