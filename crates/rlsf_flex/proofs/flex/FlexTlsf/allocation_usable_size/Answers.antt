use Rattle.std.proofs.Common.{◌∙◌, ap, length}
use Rattle.rlsf_base.specs.Addr.{at}
use Rattle.rlsf_model.specs.Callers.{bytes_at}
use Rattle.rlsf_flex.specs.StandsFor.{FlexContents}
use Rattle.rlsf_flex.proofs.flex.FlexTlsf.allocation_usable_size.Goals as goal

pub returns : goal.returns
returns g c = c.allocation_usable_size.ensures ∙ ap (λ (old : FlexContents g.row.S.Denot). length (bytes_at old.state.machine (at c.args.addr))) c.self.view_is
