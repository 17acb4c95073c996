use Rattle.std.proofs.Common.{arith}
use Rattle.rlsf_int.proofs.Bits.{first_one_is_here}
use Rattle.rlsf_int.proofs.int.BinInteger.get_bit.Goals as goal

pub returns-then-i-BITS : goal.returns-then-i-BITS
returns-then-i-BITS g c = first_one_is_here _ _ c.args.i c.bit_scan_forward.result (omega arith) c.bit_scan_forward.ensures
