use Rattle.std.proofs.Common.{arith}
use Rattle.std.specs.Int.{w8}
use Rattle.rlsf_int.proofs.Unsigned.{bit-set}
use Rattle.rlsf_int.proofs.impls.u8.U8Bitmap.insert_within.Goals as goal

pub returns : goal.returns
returns c = bit-set w8 c.args.self.now c.args.i (omega arith)
