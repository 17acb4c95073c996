-- The number of live payloads is below the number of addresses.
use Rattle.std.proofs.Common.{◌≡◌, ℕ, zero, suc, ◌+◌, ◌^◌, ◌<◌, ◌≤◌, List, [], ◌∷◌, length, map, eqb, true, false, true≢false, arith, refl, sym, ap, inl, inr, ◌∙◌}
use Rattle.std.specs.Prelude.{◌||◌}
use Rattle.std.specs.List.{AllByRecursion, IsDistinct, list_any, range_with_len}
use Rattle.std.proofs.lemmas.Bool.{cases_lt, eq-eqb, eqb-true, or_right}
use Rattle.std.proofs.lemmas.Cmp.{nat_eq_equiv}
use Rattle.std.proofs.lemmas.List.{length-map}
use Rattle.std.proofs.lemmas.List.FromFn.{length-range_with_len}
use Rattle.std.proofs.lemmas.Map.Keys.{IsDistinct-cons}
use Rattle.std.proofs.lemmas.Map.Made.{length-le_from_is_member}
use Rattle.rlsf_base.specs.declared.memory.range.Range.{Range}
use Rattle.rlsf_base.specs.Range.{end_of}
use Rattle.rlsf_model.specs.Lists.{IsIn}
use Rattle.rlsf_model.specs.Sized.{live_count}
use Rattle.rlsf_model.specs.State.{State, Used}
use Rattle.rlsf_model.specs.WellFormed.{coverage, IsWellFormed}
use Rattle.rlsf_model.proofs.Coverage.{inside, before, behind, by_test, where_is, covers-inside}
use Rattle.rlsf_model.proofs.Payloads.{IsUsed-some}
use Rattle.rlsf_model.proofs.Sums.{coverage-le, first, used_below}
use Rattle.rlsf_model.proofs.Tiling.{block_of, tiling_of, blocks-le}

abbrev start_of : Used → ℕ
start_of u = u.block.start

-- where no used block begins at an address, the addresses of used blocks are others
apart : (a : ℕ) (us : List Used) → coverage first us a ≡ 0 → AllByRecursion (λ b. eqb a b ≡ false) (map start_of us)
apart a [] none = tt
apart a (u ∷ us) none = (
  by_test (eqb a (start_of u))
      (λ e. let here : a ≡ start_of u = eqb-true a (start_of u) e in absurd (omega (arith, none, covers-inside (first u) a (omega (arith, here)) (omega (arith, here)))))
      (λ e. e),
  apart a us (omega (arith, none)),
)

-- where no two used blocks begin at one address, their addresses are distinct
distinct : (us : List Used) → ((a : ℕ) → coverage first us a ≤ 1) → IsDistinct eqb (map start_of us)
unfolding IsDistinct
distinct [] one = tt
distinct (u ∷ us) one =
    let a = start_of u in
    IsDistinct-cons eqb a (map start_of us) (apart a us (omega (arith, one a, covers-inside (first u) a (omega arith) (omega arith)))) (distinct us (λ b. omega (arith, one b)))

-- the address of a used block is below that past all of them
below : (n : ℕ) (us : List Used) → ((u : Used) → IsIn u us → start_of u < n) → (a : ℕ) → list_any (eqb a) (map start_of us) ≡ true → a < n
below n [] all a is = absurd (true≢false (sym is))
below n (u ∷ us) all a is = by_test (eqb a (start_of u))
    (λ e. omega (arith, eqb-true a (start_of u) e, all u (inl refl)))
    (λ e. below n us (λ v i. all v (inr i)) a (sym (ap (λ b. b || list_any (eqb a) (map start_of us)) e) ∙ is))

-- a range of numbers has each number between its ends
in_range : (a from n : ℕ) → from ≤ a → a < from + n → list_any (eqb a) (range_with_len from n) ≡ true
in_range a from zero low high = absurd (omega (arith, low, high))
in_range a from (suc n) low high = elim (cases_lt from a) [
  | inl past ↦ or_right (eqb a from) (list_any (eqb a) (range_with_len (from + 1) n)) (in_range a (from + 1) n (omega arith) (omega arith))
  | inr at ↦ ap (λ b. b || list_any (eqb a) (range_with_len (from + 1) n)) (eq-eqb a from (omega arith))
]

module _ {fllen sllen : ℕ} {memory : Range} {s : State} (w : IsWellFormed fllen sllen memory s) where
  -- no two used blocks begin at one address
  first-le : (a : ℕ) → coverage first s.used a ≤ 1
  first-le a = omega (
    arith,
    blocks-le s (tiling_of w) a,
    coverage-le first block_of a a s.used (λ u i. elim (where_is (first u) a) [
      | inside one low high ↦ let some = IsUsed-some u (w.used u i) in omega (arith, covers-inside u.block a (omega arith) (omega arith))
      | before none low ↦ omega arith
      | behind none high ↦ omega arith
    ]),
  )

  -- so their number is below the number of addresses
  pub live_fits : live_count s < 2 ^ 64
  unfolding live_count
  live_fits =
      let n = end_of memory in
      let starts = map start_of s.used in
      let few : length starts ≤ length (range_with_len 0 n) =
      length-le_from_is_member nat_eq_equiv starts (range_with_len 0 n) (distinct s.used first-le)
      (λ a is. in_range a 0 n (omega arith) (omega (arith, below n s.used (λ u i. omega (arith, IsUsed-some u (w.used u i), used_below w u i)) a is))) in
      omega (arith, w.addressable, few, length-map s.used start_of, length-range_with_len 0 n)

-- the number of live payloads is that of the used blocks
pub live_count-same : (s t : State) → s.used ≡ t.used → live_count s ≡ live_count t
unfolding live_count
live_count-same s t used = ap length used
