use Rattle.std.proofs.Common.{arith}
use Rattle.std.specs.Int.{w16}
use Rattle.rlsf_int.proofs.Unsigned.{bit-set}
use Rattle.rlsf_int.proofs.impls.u16.U16Bitmap.insert_within.Goals as goal

pub returns : goal.returns
returns c = bit-set w16 c.args.self.now c.args.i (omega arith)
