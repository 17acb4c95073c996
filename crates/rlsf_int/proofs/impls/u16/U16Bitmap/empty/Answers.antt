use Rattle.std.proofs.Common.{refl}
use Rattle.rlsf_int.proofs.impls.u16.U16Bitmap.empty.Goals as goal

pub returns : goal.returns
returns c = refl
