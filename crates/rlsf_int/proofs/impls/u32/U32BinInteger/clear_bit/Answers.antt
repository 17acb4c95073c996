use Rattle.std.proofs.Common.{arith}
use Rattle.std.specs.Int.{w32}
use Rattle.rlsf_int.proofs.Unsigned.{bit-clear_tested}
use Rattle.rlsf_int.proofs.impls.u32.U32BinInteger.clear_bit.Goals as goal

pub returns-then-i-lt-BITS : goal.returns-then-i-lt-BITS
returns-then-i-lt-BITS c = bit-clear_tested w32 c.args.self.now c.args.i (omega arith) (omega arith)
