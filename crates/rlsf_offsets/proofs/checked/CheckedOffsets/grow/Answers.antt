use Rattle.std.proofs.Common.{◌≡◌, ◌/◌, ◌*◌, ◌<◌, ◌≤◌, ◌∙◌, ap, inl, inr, refl, subst, sym, true≢false, ℕ}
use Rattle.std.proofs.lemmas.Bool.{cases_lt}
use Rattle.std.proofs.Math.Nat.{mul-div_left}
use Rattle.std.specs.Prelude.{Err}
use Rattle.rlsf_base.proofs.Numbers.PowersOfTwo.{IsPowerOfTwo-positive}
use Rattle.rlsf_offsets.specs.Checked.{IsGrowth}
use Rattle.rlsf_offsets.specs.Units.{limit_of}
use Rattle.rlsf_offsets.proofs.Live.{IsChecked-grown, IsChecked-refused}
use Rattle.rlsf_offsets.proofs.checked.CheckedOffsets.grow.Goals as goal

pub invariant_of-self : goal.invariant_of-self
invariant_of-self g c = IsChecked-refused c.self.invariant c.grow.new.self (c.if-not-grow.ensures.same refl)

pub returns-then-not-grow : goal.returns-then-not-grow
returns-then-not-grow g c =
    let unit = g.row.UNIT in
    let v = c.self.inside.inner in
    let e = c.if-not-grow.ensures in
    let some = IsPowerOfTwo-positive unit c.self.invariant.power in
    let now : c.space_len.result / unit ≡ v.units
    = ap (λ (n : ℕ). n / unit) (c.space_len.ensures.value ∙ ap (λ (n : ℕ). n * unit) (e.same refl).unchanged.space) ∙ mul-div_left v.units some in
    let which : IsGrowth unit v c.args.len (Err c.growth_error.result) = elim c.growth_error.ensures [
      | inl (same, less) ↦ inr (same, subst (λ (n : ℕ). c.args.len / unit < n) now less)
      | inr (same, more) ↦ elim (cases_lt (limit_of v) (c.args.len / unit)) [
        | inl far ↦ inl (same, far)
        | inr fits ↦ absurd (true≢false (sym (e.which.1 (subst (λ (n : ℕ). n ≤ c.args.len / unit) now more, fits))))
      ]
    ] in
    rw (← c.self.view_is) (record { grown = tt; which = which; sized = e.sized; same = e.same refl; touches = e.touches })

pub invariant_of-self-2 : goal.invariant_of-self-2
invariant_of-self-2 g c =
    IsChecked-grown c.self.invariant c.grow.new.self c.args.len (c.if-not-grow.ensures.which.0 refl).1 (c.if-not-grow.ensures.grown refl)

pub returns : goal.returns
returns g c =
    let e = c.if-not-grow.ensures in
    rw (← c.self.view_is) (record { grown = e.grown refl; which = e.which.0 refl; sized = e.sized; same = tt; touches = e.touches })
