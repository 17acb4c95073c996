-- Pools in another order: where they are, and how many have an address.
use Rattle.std.proofs.Common.{◌≡◌, ℕ, ◌<◌, List, [], ◌∷◌, length, suc, slice_index_or, arith, refl, sym, ◌∙◌, subst, inl, inr}
use Rattle.std.specs.Prelude.{IsPermutation, sum_by}
use Rattle.std.proofs.lemmas.List.Sorted.{All-permutation, IsPermutation-sym, sum_by-IsPermutation}
use Rattle.std.proofs.lemmas.List.Sums.{sum_by-cons}
use Rattle.rlsf_base.specs.declared.memory.range.Range.{Range}
use Rattle.rlsf_model.specs.Lists.{IsIn}
use Rattle.rlsf_model.specs.WellFormed.{covers, coverage, itself}
use Rattle.rlsf_trace_runs.proofs.Overlapping.{IsIn-at, no_range}

-- what holds of each place of a list holds of each of its elements
pub IsIn-each : (P : Range → Type 0) (p : Range) (xs : List Range) → ((k : ℕ) (d : Range) → k < length xs → P (slice_index_or xs k d)) → IsIn p xs → P p
IsIn-each P p [] each there = absurd there
IsIn-each P p (x ∷ xs) each (inl is) = subst P (sym is) (each 0 no_range (omega arith))
IsIn-each P p (x ∷ xs) each (inr there) = IsIn-each P p xs (λ k d below. each (suc k) d (omega arith)) there

-- the same elements in another order
pub IsIn-permutation : (p : Range) (xs ys : List Range) → IsPermutation xs ys → IsIn p xs → IsIn p ys
IsIn-permutation p xs ys same there =
    IsIn-each (λ q. IsIn q ys) p xs (All-permutation (λ q. IsIn q ys) ys xs (IsPermutation-sym xs ys same) (λ k d below. IsIn-at ys k d below)) there

coverage-sum : (xs : List Range) (a : ℕ) → coverage itself xs a ≡ sum_by (λ p. covers p a) xs
coverage-sum [] a = refl
coverage-sum (x ∷ xs) a = omega (arith, coverage-sum xs a, sum_by-cons (λ p. covers p a) x xs)

-- as many of them have an address
pub coverage-permutation : (xs ys : List Range) (a : ℕ) → IsPermutation xs ys → coverage itself ys a ≡ coverage itself xs a
coverage-permutation xs ys a same = coverage-sum ys a ∙ sum_by-IsPermutation (λ p. covers p a) xs ys same ∙ sym (coverage-sum xs a)
