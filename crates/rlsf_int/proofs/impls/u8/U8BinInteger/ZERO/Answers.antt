use Rattle.std.proofs.Common.{refl}
use Rattle.rlsf_int.proofs.impls.u8.U8BinInteger.ZERO.Goals as goal

pub returns : goal.returns
returns c = refl
