use Rattle.std.proofs.Common.{◌≡◌, IfOk, Ok, string_bytes, length, ap, subst, ◌∙◌}
use Rattle.std.proofs.lemmas.Iterator.{items_from_collect}
use Rattle.std.proofs.lemmas.Iterator.Consumers.{YieldsList-from_shown}
use Rattle.std.specs.Map.Iter.{TakesFirst}
use Rattle.rlsf_blocks.specs.Blocks.{Block}
use Rattle.rlsf_example_libraries.specs.Picture.{picture_of}
use Rattle.rlsf_example_libraries.proofs.drawing.picture.Goals as goal

pub returns : goal.returns
returns c =
    let given = YieldsList-from_shown (TakesFirst (λ (b : Block). b)) (λ b. b) (λ bs. bs) (λ s t h. ap length h.0) (λ s b t h. h) c.args.blocks in
    let collected : c.in_ok-blocks.blocks.items ≡ c.args.blocks = items_from_collect {E = Unit {0}} (Ok c.in_ok-blocks.blocks) c.in_ok-blocks.ensures.ran given in
    subst (λ bs. IfOk c.lines.result (λ text. string_bytes text ≡ picture_of c.args.width bs)) (c.deref.ensures.value ∙ collected) c.lines.ensures
