use Rattle.std.proofs.Common.{◌≡◌, ◌∙◌, subst}
use Rattle.std.specs.Prelude.{is_some}
use Rattle.rlsf_offsets.specs.Offsets.{len_at}
use Rattle.rlsf_offsets.specs.Units.{Offsets}
use Rattle.rlsf_offsets.proofs.Live.{live-other, live-whole}
use Rattle.rlsf_offsets.proofs.checked.CheckedOffsets.is_live.Goals as goal

pub returns-then-offset-eq0 : goal.returns-then-offset-eq0
returns-then-offset-eq0 g c =
    subst (λ (v : Offsets). c.get.result ≡ is_some (len_at g.row.UNIT v c.args.offset)) c.self.view_is
    (c.get.ensures ∙ live-whole c.self.invariant c.args.offset c.if-offset-eq0.true)

pub returns-else-offset-eq0 : goal.returns-else-offset-eq0
returns-else-offset-eq0 g c = live-other g.row.UNIT c.args.self.now c.args.offset c.if-offset-eq0.false
