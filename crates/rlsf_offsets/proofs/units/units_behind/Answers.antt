use Rattle.std.proofs.Common.{refl}
use Rattle.rlsf_offsets.proofs.units.units_behind.Goals as goal

pub returns : goal.returns
returns c = refl
