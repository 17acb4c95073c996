use Rattle.std.proofs.Common.{subst}
use Rattle.rlsf_flex.specs.StandsFor.{FlexStands}
use Rattle.rlsf_flex.proofs.InnerAllocator.{flex_stood_at}
use Rattle.rlsf_flex.proofs.flex.FlexTlsf.source_ref.Goals as goal

pub returns-clause-stands : goal.returns-clause-stands
returns-clause-stands g c = subst (FlexStands g.row.FLLEN g.row.SLLEN g.S.FlexSource.terms g.S.FlexSource.owes) c.self.view_is (flex_stood_at c.self.invariant.stands)
