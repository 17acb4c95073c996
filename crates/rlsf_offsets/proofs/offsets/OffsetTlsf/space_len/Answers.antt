use Rattle.std.proofs.Common.{subst}
use Rattle.rlsf_base.proofs.Numbers.PowersOfTwo.{IsPowerOfTwo-positive}
use Rattle.rlsf_offsets.specs.Offsets.{IsDivided}
use Rattle.rlsf_offsets.proofs.Bytes.{IsDivided-units}
use Rattle.rlsf_offsets.proofs.offsets.OffsetTlsf.space_len.Goals as goal

pub returns-clause-divided : goal.returns-clause-divided
returns-clause-divided g c =
    subst (IsDivided g.row.UNIT) c.self.view_is
    (IsDivided-units g.row.UNIT (IsPowerOfTwo-positive g.row.UNIT c.self.invariant.0) c.self.inside.inner c.units.ensures.space)
