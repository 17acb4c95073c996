use Rattle.std.proofs.Common.{arith, rules}
use Rattle.std.specs.Int.{w128}
use Rattle.rlsf_int.proofs.Signed.{clear_signed}
use Rattle.rlsf_int.proofs.impls.i128.I128BinInteger.clear_bit.Goals as goal

pub returns-then-i-lt-BITS : goal.returns-then-i-lt-BITS
returns-then-i-lt-BITS c =
    clear_signed w128 c.args.self.now c.cast_unsigned.result c.args.i c.cast_signed.result (Prim.search rules) (omega arith) (omega arith) c.cast_unsigned.ensures
    c.cast_signed.ensures
