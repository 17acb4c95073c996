use Rattle.rlsf_checked.proofs.Validity.{first_past}
use Rattle.rlsf_checked.proofs.classes.bits.Goals as goal

pub returns : goal.returns
returns g c = first_past g.B.BitPattern.width _ _ c.empty.ensures c.first_from.ensures
