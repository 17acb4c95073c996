use Rattle.std.proofs.Common.{ℕ, sym, ◌∙◌, ap}
use mathlib.Core.Path.{ap₂}
use Rattle.std.proofs.lemmas.Bool.{eq-eqb, eqb-true}
use Rattle.rlsf_model_sizes.specs.Sizes.{indices}
use Rattle.rlsf_blocks.proofs.Consistency.Classes.{SameClass-indices}
use Rattle.rlsf_blocks.proofs.consistency_check.links.same_class.Goals as goal

pub returns-then-fl-row : goal.returns-then-fl-row
returns-then-fl-row g c =
    let second = c.class_of-row.ensures in (
      λ same. SameClass-indices g.row.SLLEN c.args.size c.args.other c.requires.sizes.0 c.requires.sizes.1
          (sym c.class_of-fl.ensures ∙ ap₂ (λ a b. (a, b)) c.if-fl-row.true (eqb-true _ _ same) ∙ second),
      λ same. eq-eqb c.class_of-fl.result.1 c.class_of-row.result.1 (ap (λ (p : ℕ × ℕ). p.1) (c.class_of-fl.ensures ∙ ap indices same ∙ sym second)),
    )
