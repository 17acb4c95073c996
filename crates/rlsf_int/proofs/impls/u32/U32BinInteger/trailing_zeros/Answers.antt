use Rattle.std.proofs.Common.{arith}
use Rattle.std.specs.Int.{w32}
use Rattle.rlsf_int.proofs.Unsigned.{first_from_0}
use Rattle.rlsf_int.proofs.impls.u32.U32BinInteger.trailing_zeros.Goals as goal

pub returns : goal.returns
returns c = first_from_0 w32 c.args.self.now (omega arith)
