use Rattle.std.proofs.Common.{◌↔◌, IsTrue, Bool, sym, ◌∙◌, ap, subst}
use Rattle.rlsf_model_sizes.specs.SizeClass.{IsValid}
use Rattle.rlsf_checked.specs.Steps.Classes.{is_valid}
use Rattle.rlsf_checked.proofs.Validity.{is_valid-iff}
use Rattle.rlsf_checked.proofs.classes.are_valid.Goals as goal

pub returns : goal.returns
returns g c =
    let told =
    c.is_valid.ensures ∙ ap (λ n. is_valid n c.bits-2.result g.row.FLLEN g.row.SLLEN) c.bits.ensures
    ∙ ap (λ n. is_valid g.FLBitmap.BitPattern.width n g.row.FLLEN g.row.SLLEN) c.bits-2.ensures in
    subst (λ (b : Bool). IsTrue b ↔ IsValid g.FLBitmap.BitPattern.width g.SLBitmap.BitPattern.width g.row.FLLEN g.row.SLLEN) (sym told)
    (is_valid-iff g.FLBitmap.BitPattern.width g.SLBitmap.BitPattern.width g.row.FLLEN g.row.SLLEN)
