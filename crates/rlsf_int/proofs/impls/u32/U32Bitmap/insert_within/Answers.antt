use Rattle.std.proofs.Common.{arith}
use Rattle.std.specs.Int.{w32}
use Rattle.rlsf_int.proofs.Unsigned.{bit-set}
use Rattle.rlsf_int.proofs.impls.u32.U32Bitmap.insert_within.Goals as goal

pub returns : goal.returns
returns c = bit-set w32 c.args.self.now c.args.i (omega arith)
