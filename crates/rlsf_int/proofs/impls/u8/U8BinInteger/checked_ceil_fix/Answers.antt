use Rattle.std.proofs.Common.{arith, refl}
use Rattle.std.specs.Int.{w8}
use Rattle.rlsf_int.proofs.Ceilings.{ceil_unsigned, refused_unsigned}
use Rattle.rlsf_int.proofs.impls.u8.U8BinInteger.checked_ceil_fix.Goals as goal

pub returns-in-Some : goal.returns-in-Some
returns-in-Some c = ceil_unsigned w8 c.args.self c.args.fp c.in-Some.sum (omega arith) c.in-Some.ensures.1 (omega arith)

pub returns-in-None : goal.returns-in-None
returns-in-None c = refused_unsigned w8 c.args.self c.args.fp _ (omega arith) refl (omega arith) c.in-None.ensures
