use Rattle.std.proofs.Common.{arith}
use Rattle.std.specs.Int.{w128}
use Rattle.rlsf_int.proofs.Unsigned.{first_one}
use Rattle.rlsf_int.proofs.impls.u128.U128BinInteger.bit_scan_forward.Goals as goal

pub returns-else-start-ge-BITS : goal.returns-else-start-ge-BITS
returns-else-start-ge-BITS c = first_one w128 c.args.self.now c.args.start (omega arith) (omega arith)
