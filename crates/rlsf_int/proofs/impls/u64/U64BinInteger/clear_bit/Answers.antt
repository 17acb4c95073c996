use Rattle.std.proofs.Common.{arith}
use Rattle.std.specs.Int.{w64}
use Rattle.rlsf_int.proofs.Unsigned.{bit-clear_tested}
use Rattle.rlsf_int.proofs.impls.u64.U64BinInteger.clear_bit.Goals as goal

pub returns-then-i-lt-BITS : goal.returns-then-i-lt-BITS
returns-then-i-lt-BITS c = bit-clear_tested w64 c.args.self.now c.args.i (omega arith) (omega arith)
