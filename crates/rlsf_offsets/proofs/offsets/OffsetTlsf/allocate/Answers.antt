use Rattle.std.proofs.Common.{◌*◌, ◌^◌, ◌<◌, ◌≤◌, ℕ, Option, arith, refl, subst, sym, true≢false}
use Rattle.std.proofs.Math.Nat.{mul-le-mul_right}
use Rattle.std.proofs.lemmas.Option.{none-some}
use Rattle.std.specs.Prelude.{IsSome}
use Rattle.rlsf_base.proofs.Numbers.PowersOfTwo.{IsPowerOfTwo-positive}
use Rattle.rlsf_model_sizes.specs.PowerOfTwo.{IsPowerOfTwo}
use Rattle.rlsf_offsets.specs.Offsets.{units_of_bytes}
use Rattle.rlsf_offsets.specs.Units.{IsReserved, SucceedsWithin}
use Rattle.rlsf_offsets.proofs.Allocations.{if_none, if_some}
use Rattle.rlsf_offsets.proofs.Bytes.{IsAllocated-units, KeepsRanges-unchanged, power_of_units}
use Rattle.rlsf_offsets.proofs.offsets.OffsetTlsf.allocate.Goals as goal

pub units_for-units-requires : goal.units_for-units-requires
units_for-units-requires g c = IsPowerOfTwo-positive g.row.UNIT c.self.invariant.0

pub units_for-step-requires : goal.units_for-step-requires
units_for-step-requires g c = IsPowerOfTwo-positive g.row.UNIT c.self.invariant.0

pub allocate-requires-clause-align : goal.allocate-requires-clause-align
allocate-requires-clause-align g c =
    subst IsPowerOfTwo (sym c.units_for-step.ensures.value) (power_of_units g.row.UNIT c.args.align c.self.invariant.0 c.requires)

pub overflow_mul-result : goal.overflow_mul-result
overflow_mul-result g c =
    let fits : c.in_ok-first.first * g.row.UNIT ≤ c.self.inside.inner.units * g.row.UNIT = mul-le-mul_right g.row.UNIT (omega (arith, c.in_ok-first.ensures.reserved.inside)) in
    omega (arith, fits, c.self.invariant.1)

pub invariant_of-self : goal.invariant_of-self
invariant_of-self g c = (c.self.invariant.0, subst (λ (n : ℕ). n * g.row.UNIT < 2 ^ 64) (sym c.in_err-first.ensures.same.space) c.self.invariant.1)

pub invariant_of-self-2 : goal.invariant_of-self-2
invariant_of-self-2 g c = (c.self.invariant.0, subst (λ (n : ℕ). n * g.row.UNIT < 2 ^ 64) (sym c.in_ok-first.ensures.reserved.space) c.self.invariant.1)

pub returns-in_err-first : goal.returns-in_err-first
returns-in_err-first g c =
    let e = c.in_err-first.ensures in
    let none = c.from_residual.ensures in
    rw (← c.self.view_is, ← c.units_for-units.ensures.value, ← c.units_for-step.ensures.value) (record {
      allocated = if_some _ none;
      refused = (λ h. e.refused.0 refl, λ h. none);
      room = λ o m run long. absurd (true≢false (sym (e.room o m run long)));
      within = subst (λ (o : Option ℕ). SucceedsWithin c.self.inside.inner c.units_for-units.result c.units_for-step.result (IsSome o)) (sym none) e.within;
      sized = e.sized;
      same = if_none _ none (KeepsRanges-unchanged g.row.UNIT c.self.inside.inner c.allocate.new.self e.same);
      touches = e.touches;
    })

pub returns : goal.returns
returns g c =
    let unit = g.row.UNIT in
    let v = c.self.inside.inner in
    let x = c.allocate.new.self in
    let first = c.in_ok-first.first in
    let e = c.in_ok-first.ensures in
    let made : IsReserved v x (units_of_bytes unit c.args.len) (units_of_bytes unit c.args.align) first
    = subst (λ (p : ℕ × ℕ). IsReserved v x p.0 p.1 first) (λ i. (c.units_for-units.ensures.value i, c.units_for-step.ensures.value i)) e.reserved in
    let allocated = IsAllocated-units unit c.args.align c.self.invariant.0 c.requires v x c.args.len first made in
    rw (← c.self.view_is, ← c.units_for-units.ensures.value, ← c.units_for-step.ensures.value) (record {
      allocated = allocated;
      refused = (λ h. absurd (none-some _ (sym h)), λ full. absurd (none-some _ (sym (e.refused.1 full))));
      room = λ o m run long. refl;
      within = e.within;
      sized = e.sized;
      same = tt;
      touches = e.touches;
    })
