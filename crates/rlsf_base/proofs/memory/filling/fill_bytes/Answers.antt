use Rattle.std.proofs.Common.{◌≡◌, ◌+◌, ◌-◌, ◌∙◌, ap, arith, List, [], ◌∷◌, subst, sym}
use Rattle.std.specs.List.{splice}
use Rattle.rlsf_base.specs.Out.{Change}
use Rattle.rlsf_base.specs.Changes.{AreBytesHere, IsOwn, came_back}
use Rattle.rlsf_base.proofs.RawBlock.Fills.{filled, grows, own-written}
use Rattle.rlsf_base.proofs.memory.filling.fill_bytes.Goals as goal

pub loop-index-preserved : goal.loop-index-preserved
loop-index-preserved c =
    let i = c.loop-index.index in let old = c.args.bytes.now.bytes in let is = c.loop-index.invariant in let e = c.write.ensures in
    let at : c.args.place + i - c.loop-index.bytes.skip ≡ i = omega (arith, is.1.1, c.requires.1) in
    let cs : c.write.new.self.out ≡ came_back i 1 c.loop-index.bytes.out = e.1 ∙ ap (λ k. came_back k 1 c.loop-index.bytes.out) at in
    let bytes = e.0.2 ∙ (λ j. splice (is.1.2 j) (at j) (at j + 1) (c.args.value ∷ [])) ∙ filled old i c.args.value (omega (arith, c.requires, c.loop-index-test.true)) in (
      omega (arith, c.loop-index-test.true),
      (e.0.0 ∙ is.1.0, e.0.1 ∙ is.1.1, bytes, e.0.3 ∙ is.1.3, e.0.4 ∙ is.1.4),
      subst (λ (u : List Change). AreBytesHere u 0 (i + 1)) (sym cs) (grows c.loop-index.bytes.out i is.2),
      subst (λ (u : List Change). IsOwn u 0 c.args.len) (sym cs) (own-written c.loop-index.bytes.out i 1 0 c.args.len is.3),
    )
