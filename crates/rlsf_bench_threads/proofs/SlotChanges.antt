-- The payloads of slots stay live as one slot changes.
use Rattle.std.proofs.Common.{◌≡◌, ◌≢◌, ◌⊎◌, ◌∙◌, ℕ, ◌<◌, List, Option, Some, None, inl, inr, length, subst, sym, slice_index_or, slice_set, replicate, arith}
use Rattle.std.proofs.lemmas.Bool.{cases_eq}
use Rattle.std.proofs.lemmas.Bool.Decides.{leb_tells}
use Rattle.std.proofs.lemmas.List.{get_or-replicate, get_or-set_other, get_or-set_same, get_or_past, length-replicate}
use Rattle.std.proofs.lemmas.Option.{slice_get-get_or}
use Rattle.rlsf_base.specs.Addr.{at}
use Rattle.rlsf_bench_threads.specs.Slots.{AreSlotsLive, HasPayload}
use Rattle.rlsf_bench_threads.specs.declared.global_steps.Payload.{Payload}
use Rattle.rlsf_model.specs.Callers.{align_at}
use Rattle.rlsf_model.specs.State.{State}

-- what is there is one thing
some_same : {A : Type 0} {x y : A} → Some x ≡ Some y → x ≡ y
some_same e = cc

-- the element of a slot, whatever the default is
pub has_at : (slots : List (Option Payload)) (k : ℕ) (d : Option Payload) (p : Payload) → k < length slots → slice_index_or slots k d ≡ Some p → HasPayload slots k p
has_at slots k d p below is = some_same (sym (slice_get-get_or slots k None below) ∙ slice_get-get_or slots k d below) ∙ is

module _ (s t : State) (slots : List (Option Payload)) (are : AreSlotsLive s slots) (k : ℕ) (below : k < length slots) where
  -- what a slot has, after one of them changed
  changed : (now : Option Payload) (i : ℕ) (p : Payload) → HasPayload (slice_set slots k now) i p → ((i ≡ k) × (now ≡ Some p)) ⊎ ((i ≢ k) × HasPayload slots i p)
  changed now i p has = elim (cases_eq i k) [
    | inl same ↦ inl (same, sym (subst (λ j. slice_index_or (slice_set slots k now) j None ≡ now) (sym same) (get_or-set_same slots k now None below)) ∙ has)
    | inr off ↦ inr (off, sym (get_or-set_other slots k i now None off) ∙ has)
  ]

  -- its payload is deallocated
  pub AreLive-freed : (p : Payload) → HasPayload slots k p → ((a : ℕ) → a ≢ at p.addr → align_at t a ≡ align_at s a) → AreSlotsLive t (slice_set slots k None)
  AreLive-freed p here others = record {
    live = λ i q has. let (off, was) = kept i q has in
        others (at q.addr) (λ same. off (are.one i k q p was here same)) ∙ are.live i q was;
    one = λ i j q r has too. are.one i j q r (kept i q has).1 (kept j r too).1;
  }
    where
      kept : (i : ℕ) (q : Payload) → HasPayload (slice_set slots k None) i q → (i ≢ k) × HasPayload slots i q
      kept i q has = elim (changed None i q has) [ inl (_, none) ↦ absurd (cc) | inr was ↦ was ]

-- no slot has one
pub AreSlotsLive-none : (s : State) (n : ℕ) → AreSlotsLive s (replicate n None)
AreSlotsLive-none s n = record { live = λ i p has. absurd (none i p has); one = λ i j p q has _ _. absurd (none i p has) }
  where
    none : (i : ℕ) (p : Payload) → HasPayload (replicate n None) i p → ⊥
    none i p has = elim (leb_tells n i) [
      | inl (_, past) ↦ let e = sym (get_or_past (replicate n None) i None (omega (arith, length-replicate {A = Option Payload} n None, past))) ∙ has in absurd (cc)
      | inr (_, below) ↦ let e = sym (get_or-replicate n i None None below) ∙ has in absurd (cc)
    ]
