use Rattle.std.proofs.Common.{◌≡◌, ◌≤◌, ◌%◌, Result, Ok, Err, ℕ, refl, sym, ◌∙◌, ap, subst}
use Rattle.std.proofs.lemmas.Bool.{false≢true}
use Rattle.rlsf_base.specs.Range.{end_of}
use Rattle.rlsf_base.specs.Space.{Space, range_of}
use Rattle.rlsf_checked.specs.Checked.{PoolList}
use Rattle.rlsf_checked.specs.Pools.{no_pools}
use Rattle.rlsf_codes.specs.Codes.{HasPlace}
use Rattle.rlsf_checked.specs.Steps.Standing.{IsChecked}
use Rattle.rlsf_checked.specs.declared.error.CheckedError.{CheckedError}
use Rattle.rlsf_checked.specs.declared.error.CheckedError.TheVariants.{InvalidClasses, OutOfMemory}
use Rattle.rlsf_checked.proofs.PoolsOverSteps.{made}
use Rattle.rlsf_checked.proofs.checked.CheckedTlsf.new.Goals as goal

pub invariant_of-result : goal.invariant_of-result
invariant_of-result g c =
    let covers =
    subst (λ (x : Space). (a : ℕ) → a % 16 ≡ 0 → x.start ≤ a → a ≤ end_of (range_of x) → HasPlace c.in-Some.marks a) (sym c.new.ensures.memory)
    c.in-Some.ensures.covers in
    subst (λ (pools : PoolList). IsChecked g.row.FLLEN g.row.SLLEN c.new.result c.in-Some.marks pools)
    (ap (λ (x : Space). no_pools x.start) c.new.ensures.memory ∙ ap no_pools (sym c.start.ensures.value) ∙ sym c.new-pools.ensures)
    (made c.new.result c.in-Some.marks c.new.ensures.stands c.new.ensures.state c.in-Some.ensures.none covers)

pub returns : goal.returns
returns g c = record {
  invalid = ((λ bad. absurd (no_error bad)), (λ none. absurd (none (c.are_valid.ensures.0 c.if-not-are_valid.false))));
  refused = tt;
  state = c.new.ensures.state;
  live = (c.new.ensures.count, c.new.ensures.blocks);
  memory = c.new.ensures.memory;
  pools = c.new-pools.ensures ∙ ap no_pools c.start.ensures.value;
  stands = c.new.ensures.stands;
}
  where
    no_error : {A E : Type 0} {x : A} {e : E} → Ok x ≡ Err e → ⊥
    no_error bad = cc

pub returns-in_default : goal.returns-in_default
returns-in_default g c = record {
  invalid = ((λ bad. absurd (other bad)), (λ none. absurd (none (c.are_valid.ensures.0 c.if-not-are_valid.false))));
  refused = λ e. refl;
  state = tt;
  live = tt;
  memory = tt;
  pools = tt;
  stands = tt;
}
  where
    other : {A : Type 0} → ◌≡◌ {A = Result A CheckedError} (Err OutOfMemory) (Err InvalidClasses) → ⊥
    other bad = cc

pub returns-then-not-are_valid : goal.returns-then-not-are_valid
returns-then-not-are_valid g c = record {
  invalid = ((λ same valid. false≢true (sym c.if-not-are_valid.true ∙ c.are_valid.ensures.1 valid)), (λ none. refl));
  refused = λ other. absurd (other refl);
  state = tt;
  live = tt;
  memory = tt;
  pools = tt;
  stands = tt;
}
