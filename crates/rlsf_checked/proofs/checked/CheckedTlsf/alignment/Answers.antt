use Rattle.std.proofs.Common.{◌^◌, ◌-◌, Some, IsSome, arith, refl, sym, ◌∙◌, ap, subst}
use Rattle.rlsf_model_sizes.specs.PowerOfTwo.{IsPowerOfTwo}
use Rattle.rlsf_model.specs.Callers.{align_at}
use Rattle.rlsf_checked.proofs.FieldsOverSteps.{marked_as}
use Rattle.rlsf_checked.proofs.checked.CheckedTlsf.alignment.Goals as goal

pub align_of-requires : goal.align_of-requires
align_of-requires g c =
    let (is, some, few, power) = marked_as c.self.invariant c.get.result (λ e. c.if-mark-eq0.false (c.get-mark.ensures ∙ e)) in
    (omega (arith, some, c.get-mark.ensures), omega (arith, few, c.get-mark.ensures))

pub returns : goal.returns
returns g c =
    let (is, some, few, power) = marked_as c.self.invariant c.get.result (λ e. c.if-mark-eq0.false (c.get-mark.ensures ∙ e)) in
    let same = c.align_of.ensures ∙ ap (λ n. 2 ^ (n - 1)) c.get-mark.ensures in
    let there = sym is ∙ ap (align_at c.self.inside.heap.state) c.get.ensures.value in
    record {
      value = rw (← c.self.view_is) (ap Some same ∙ there);
      live = rw (← c.self.view_is) (subst IsSome there refl);
      power = subst IsPowerOfTwo (sym same) power;
    }
