use Rattle.std.proofs.Common.{arith}
use Rattle.std.specs.Int.{w16}
use Rattle.rlsf_int.proofs.Unsigned.{zeros_above}
use Rattle.rlsf_int.proofs.impls.u16.U16BinInteger.leading_zeros.Goals as goal

pub returns : goal.returns
returns c = zeros_above w16 c.args.self.now (omega arith)
