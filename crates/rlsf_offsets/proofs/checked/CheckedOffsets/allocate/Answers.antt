use Rattle.std.proofs.Common.{◌≡◌, ◌*◌, ◌<◌, ◌≤◌, ◌∙◌, true≢false, ap, arith, inl, inr, refl, subst, sym, ℕ}
use Rattle.std.proofs.lemmas.Option.{none-some}
use Rattle.std.specs.Prelude.{Err, is_some, true}
use Rattle.rlsf_model_sizes.specs.PowerOfTwo.{IsPowerOfTwo}
use Rattle.rlsf_offsets.specs.Checked.{IsAllocation}
use Rattle.rlsf_offsets.proofs.Allocations.{sized-same}
use Rattle.rlsf_offsets.proofs.Bytes.{KeepsRanges-same}
use Rattle.rlsf_offsets.proofs.Live.{IsChecked-refused, IsChecked-set, allocated_inside}
use Rattle.rlsf_offsets.proofs.checked.CheckedOffsets.allocate.Goals as goal

pub returns-then-not-is_power : goal.returns-then-not-is_power
returns-then-not-is_power g c =
    let v = c.args.self.now in
    let not_power : IsPowerOfTwo c.args.align → ⊥ = λ power. true≢false (sym (c.if-not-is_power.ensures.1 power)) in record {
      allocated = tt;
      which = inl (refl, not_power);
      room = λ power o m run long. absurd (not_power power);
      within = λ power. absurd (not_power power);
      sized = sized-same v v _ _ refl;
      same = KeepsRanges-same g.row.UNIT v;
      touches = omega arith;
    }

pub set-requires : goal.set-requires
set-requires g c = allocated_inside c.self.invariant c.allocate.new.self c.args.len c.args.align c.in-Some.offset c.in-Some.ensures.allocated

pub invariant_of-self : goal.invariant_of-self
invariant_of-self g c =
    let made = c.in-Some.ensures.allocated.units in
    let marks = c.set.ensures in
    IsChecked-set c.self.invariant c.allocate.new.self c.set.new.self _ true marks.here marks.others marks.len (ap is_some made.live)
    (λ o other. (made.others o other).0) made.space made.limit

pub returns-in-Some : goal.returns-in-Some
returns-in-Some g c =
    let e = c.in-Some.ensures in
    let made = e.allocated in
    rw (← c.self.view_is) (record {
      allocated = made;
      which = (c.if-not-is_power.ensures.0 refl, omega (arith, made.long, made.inside), λ full. none-some _ (sym (e.refused.1 full)));
      room = λ power o m run long. refl;
      within = λ power. e.within;
      sized = e.sized;
      same = tt;
      touches = e.touches;
    })

pub invariant_of-self-in-None : goal.invariant_of-self-in-None
invariant_of-self-in-None g c = IsChecked-refused c.self.invariant c.allocate.new.self c.in-None.ensures.same

pub returns-in-None : goal.returns-in-None
returns-in-None g c =
    let unit = g.row.UNIT in
    let len = c.args.len in
    let e = c.in-None.ensures in
    let power = c.if-not-is_power.ensures.0 refl in
    let space : c.space_len.result ≡ c.self.inside.inner.units * unit = c.space_len.ensures.value ∙ ap (λ (n : ℕ). n * unit) e.same.unchanged.space in
    let which : IsAllocation unit c.self.inside.inner len c.args.align (Err c.allocation_error.result) = elim c.allocation_error.ensures [
      | inl (same, less) ↦ inr (inl (same, power, subst (λ (n : ℕ). n < len) space less))
      | inr (same, fits) ↦ inr (inr (same, power, subst (λ (n : ℕ). len ≤ n) space fits, e.refused.0 refl))
    ] in
    rw (← c.self.view_is) (record {
      allocated = tt;
      which = which;
      room = λ is o m run long. absurd (true≢false (sym (e.room o m run long)));
      within = λ is. e.within;
      sized = e.sized;
      same = e.same;
      touches = e.touches;
    })
