use Rattle.std.proofs.Common.{rules, ◌≡◌, ◌*◌, ◌∙◌, ap, inl, inr, refl, sym, true≢false, arith, length}
use Rattle.std.specs.Prelude.{Err, is_ok}
use Rattle.rlsf_model_sizes.specs.PowerOfTwo.{IsPowerOfTwo}
use Rattle.rlsf_base.proofs.Numbers.PowersOfTwo.{IsPowerOfTwo-positive}
use Rattle.rlsf_offsets.specs.Units.{limit_of}
use Rattle.rlsf_offsets.proofs.Live.{none_live}
use Rattle.rlsf_offsets.proofs.checked.CheckedOffsets.new.Goals as goal

pub returns-then-not-is_power : goal.returns-then-not-is_power
returns-then-not-is_power g c =
    let not_power : IsPowerOfTwo g.row.UNIT → ⊥ = λ power. true≢false (sym (c.if-not-is_power.ensures.1 power)) in record {
      bad_unit = (λ e. not_power, λ none. refl);
      too_long = (λ e. search rules, λ both. absurd (not_power both.0));
      refused = inl refl;
      units = tt;
      empty = tt;
      free = tt;
      sized = tt;
    }

pub returns-in-Err-TooLong : goal.returns-in-Err-TooLong
returns-in-Err-TooLong g c =
    let power = c.if-not-is_power.ensures.0 refl in record {
      bad_unit = (λ e. search rules, λ none. absurd (none power));
      too_long = (λ e. (power, c.in-Err-TooLong.ensures.too_long.0 (ap Err c.in-Err-TooLong.field-0-is)), λ both. refl);
      refused = inr (inl refl);
      units = tt;
      empty = tt;
      free = tt;
      sized = tt;
    }

pub returns-in_default : goal.returns-in_default
returns-in_default g c =
    let power = c.if-not-is_power.ensures.0 refl in record {
      bad_unit = (λ e. search rules, λ none. absurd (none power));
      too_long = (λ e. search rules, λ both. absurd (true≢false (ap is_ok (c.in-Ok.ensures.too_long.1 both.1))));
      refused = inr (inr refl);
      units = tt;
      empty = tt;
      free = tt;
      sized = tt;
    }

pub invariant_of-result : goal.invariant_of-result
invariant_of-result g c =
    let unit = g.row.UNIT in
    let v = c.in-Ok.inner in
    let power = c.if-not-is_power.ensures.0 refl in
    let marks = c.in-Some.ensures in
    let same : limit_of v ≡ length c.in-Some.marks.marks.items = c.in-Ok.ensures.units.1 ∙ sym c.greater.ensures.value ∙ sym marks.len in
    record {
      power = power;
      marked = λ o. marks.none o ∙ none_live unit (IsPowerOfTwo-positive unit power) v o (c.in-Ok.ensures.empty (o * unit));
      covers = omega (arith, same);
      few = omega (arith, c.in-Ok.ensures.units.0, same, marks.len, c.greater.ensures.first);
    }

pub returns : goal.returns
returns g c =
    let power = c.if-not-is_power.ensures.0 refl in
    let e = c.in-Ok.ensures in record {
      bad_unit = (λ long. absurd (true≢false (ap is_ok long)), λ none. absurd (none power));
      too_long = (λ long. absurd (true≢false (ap is_ok long)), λ both. absurd (true≢false (ap is_ok (e.too_long.1 both.1))));
      refused = tt;
      units = e.units;
      empty = e.empty;
      free = e.free;
      sized = e.sized;
    }
