use Rattle.std.proofs.Common.{subst}
use Rattle.rlsf_offsets.specs.Units.{IsSpace}
use Rattle.rlsf_offsets.proofs.Ranges.{IsSpace-shadow}
use Rattle.rlsf_offsets.proofs.units.UnitTlsf.units.Goals as goal

pub returns-clause-space : goal.returns-clause-space
returns-clause-space c = subst IsSpace c.self.view_is (IsSpace-shadow c.self.invariant.shadow)
