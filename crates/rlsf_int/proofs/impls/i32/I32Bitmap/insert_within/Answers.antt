use Rattle.std.proofs.Common.{arith, rules}
use Rattle.std.specs.Int.{w32}
use Rattle.rlsf_int.proofs.Signed.{set_signed}
use Rattle.rlsf_int.proofs.impls.i32.I32Bitmap.insert_within.Goals as goal

pub returns : goal.returns
returns c =
    set_signed w32 c.args.self.now c.cast_unsigned.result c.args.i c.cast_signed.result (Prim.search rules) (omega arith) (omega arith) c.cast_unsigned.ensures
    c.cast_signed.ensures
