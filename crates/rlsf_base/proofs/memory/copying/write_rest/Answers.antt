use Rattle.std.proofs.Common.{◌≡◌, ◌+◌, ◌-◌, ◌∙◌, ap, arith, length, List, [], ◌∷◌, slice_index, subst, sym}
use Rattle.std.specs.List.{splice}
use Rattle.rlsf_base.specs.Out.{Change}
use Rattle.rlsf_base.specs.Changes.{AreBytesHere, IsOwn, came_back}
use Rattle.rlsf_base.proofs.RawBlock.Fills.{grows, one_more, own-written}
use Rattle.rlsf_base.proofs.memory.copying.write_rest.Goals as goal

pub loop-index-preserved : goal.loop-index-preserved
loop-index-preserved c =
    let i = c.loop-index.index in let old = c.args.bytes.now.bytes in let is = c.loop-index.invariant in let e = c.write.ensures in
    let at : c.args.place + i - c.loop-index.bytes.skip ≡ i = omega (arith, is.1.1, c.requires.place.1) in
    let cs : c.write.new.self.out ≡ came_back i 1 c.loop-index.bytes.out = e.1 ∙ ap (λ k. came_back k 1 c.loop-index.bytes.out) at in
    let bytes =
    e.0.2 ∙ (λ j. splice (is.1.2 j) (at j) (at j + 1) (slice_index c.args.from.now i ∷ []))
    ∙ one_more old c.args.from.now i (omega (arith, c.loop-index-test.true)) c.requires.place.2 in (
      omega (arith, c.loop-index-test.true),
      (e.0.0 ∙ is.1.0, e.0.1 ∙ is.1.1, bytes, e.0.3 ∙ is.1.3, e.0.4 ∙ is.1.4),
      subst (λ (u : List Change). AreBytesHere u 0 (i + 1)) (sym cs) (grows c.loop-index.bytes.out i is.2),
      subst (λ (u : List Change). IsOwn u 0 (length c.args.from.now)) (sym cs) (own-written c.loop-index.bytes.out i 1 0 (length c.args.from.now) is.3),
    )
