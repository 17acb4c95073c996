use Rattle.std.proofs.Common.{◌≡◌, ◌+◌, ◌-◌, ◌≤◌, ◌∙◌, ap, arith, length, List, take, drop, subst, sym}
use Rattle.std.proofs.lemmas.List.{take_rest}
use Rattle.std.specs.List.{splice}
use Rattle.rlsf_base.specs.Out.{Change}
use Rattle.rlsf_base.specs.Changes.{AreBytesHere, IsOwn, came_back}
use Rattle.rlsf_base.proofs.RawBlock.Fills.{grows-by, more-by, own-written}
use Rattle.rlsf_base.proofs.memory.copying.write_units.Goals as goal

pub loop-unit-preserved : goal.loop-unit-preserved
loop-unit-preserved g c =
    let i = c.loop-unit.index in let old = c.args.bytes.now.bytes in let new = c.args.from.now in
    let is = c.loop-unit.invariant in let e = c.write_unit.ensures in let chunk = c.in-Some.ensures.cases in
    let at : c.args.place + i - c.loop-unit.bytes.skip ≡ i = omega (arith, is.1.1, c.requires.1) in
    let fits : i + 16 ≤ length new = omega (arith, chunk.enough, is.0) in
    let cs : c.write_unit.new.self.out ≡ came_back i 16 c.loop-unit.bytes.out = e.1 ∙ ap (λ k. came_back k 16 c.loop-unit.bytes.out) at in
    let unit : c.in-Some.unit.now ≡ take 16 (drop i new) = chunk.same ∙ ap (take 16) (take_rest new i) in
    let bytes = e.0.2 ∙ (λ j. splice (is.1.2 j) (at j) (at j + 16) (unit j)) ∙ more-by old new i 16 fits in (
      fits,
      (e.0.0 ∙ is.1.0, e.0.1 ∙ is.1.1, bytes, e.0.3 ∙ is.1.3, e.0.4 ∙ is.1.4),
      subst (λ (u : List Change). AreBytesHere u 0 (i + 16)) (sym cs) (grows-by c.loop-unit.bytes.out i 16 is.2),
      subst (λ (u : List Change). IsOwn u 0 (length new)) (sym cs) (own-written c.loop-unit.bytes.out i 16 0 (length new) is.3),
    )
