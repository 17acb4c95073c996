use Rattle.std.proofs.Common.{◌≡◌, ◌-◌, ap, arith, sym, ◌∙◌}
use Rattle.rlsf_base.specs.Out.{kept_at}
use Rattle.rlsf_base.specs.Changes.{came_back}
use Rattle.rlsf_base.proofs.Changes.{back-same}
use Rattle.rlsf_base.proofs.memory.copying.copy.Goals as goal

pub returns-else-to-from-clause-out : goal.returns-else-to-from-clause-out
returns-else-to-from-clause-out c k =
    let d = c.args.bytes.now in
    let place : c.args.from - d.skip ≡ c.args.to - d.skip = omega (arith, c.if-from-to.false, c.if-to-from.false) in
    ap (λ cs. kept_at cs k) (sym (back-same d.out (c.args.from - d.skip) c.args.len c.requires.kept.0)) ∙ ap (λ i. kept_at (came_back i c.args.len d.out) k) place
