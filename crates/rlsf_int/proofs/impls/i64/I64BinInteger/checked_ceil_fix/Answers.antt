use Rattle.std.proofs.Common.{arith}
use Rattle.std.specs.Int.{w64}
use Rattle.rlsf_int.proofs.Ceilings.{ceil_signed, refused_signed}
use Rattle.rlsf_int.proofs.impls.i64.I64BinInteger.checked_ceil_fix.Goals as goal

pub returns-in-Some : goal.returns-in-Some
returns-in-Some c =
    ceil_signed w64 c.args.fp c.cast_signed-fraction.result (omega arith) c.cast_signed-fraction.ensures c.args.self c.in-Some.sum c.ranges.self c.in-Some.ensures.0
    c.in-Some.ensures.1

pub returns-in-None : goal.returns-in-None
returns-in-None c = refused_signed w64 c.args.fp c.cast_signed-fraction.result (omega arith) c.cast_signed-fraction.ensures c.args.self c.ranges.self c.in-None.ensures
