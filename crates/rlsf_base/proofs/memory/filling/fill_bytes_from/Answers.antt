use Rattle.std.proofs.Common.{◌≡◌, ◌<◌, ◌+◌, ◌-◌, ◌∙◌, ap, arith, length, List, [], ◌∷◌, subst, sym}
use Rattle.std.specs.List.{splice}
use Rattle.rlsf_base.specs.Out.{Change}
use Rattle.rlsf_base.specs.Changes.{AreBytesHere, IsOwn, came_back}
use Rattle.rlsf_base.proofs.RawBlock.Fills.{filled-from, grows, own-written}
use Rattle.rlsf_base.proofs.memory.filling.fill_bytes_from.Goals as goal

pub loop-index-preserved : goal.loop-index-preserved
loop-index-preserved c =
    let i = c.loop-index.index in let old = c.args.bytes.now.bytes in let is = c.loop-index.invariant in let e = c.write.ensures in
    let at : c.args.place + i - c.loop-index.bytes.skip ≡ i = omega (arith, is.2.1, c.requires.own.1) in
    let cs : c.write.new.self.out ≡ came_back i 1 c.loop-index.bytes.out = e.1 ∙ ap (λ k. came_back k 1 c.loop-index.bytes.out) at in
    let end : i < length old = omega (arith, c.requires, c.loop-index-test.true) in
    let bytes = e.0.2 ∙ (λ j. splice (is.2.2 j) (at j) (at j + 1) (c.args.value ∷ [])) ∙ filled-from old c.args.from i c.args.value is.0 end in (
      omega (arith, is.0),
      omega (arith, c.loop-index-test.true),
      (e.0.0 ∙ is.2.0, e.0.1 ∙ is.2.1, bytes, e.0.3 ∙ is.2.3, e.0.4 ∙ is.2.4),
      subst (λ (u : List Change). AreBytesHere u 0 (i + 1)) (sym cs) (grows c.loop-index.bytes.out i is.3),
      subst (λ (u : List Change). IsOwn u 0 c.args.len) (sym cs) (own-written c.loop-index.bytes.out i 1 0 c.args.len is.4),
    )
