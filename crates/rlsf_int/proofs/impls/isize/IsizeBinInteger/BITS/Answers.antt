use Rattle.std.proofs.Common.{refl}
use Rattle.rlsf_int.proofs.impls.isize.IsizeBinInteger.BITS.Goals as goal

pub returns : goal.returns
returns c = refl
