-- A memory has room for no more ranges that don't overlap than it has bytes.
use Rattle.std.proofs.Common.{◌≡◌, ℕ, zero, suc, ◌+◌, ◌<◌, ◌≤◌, List, [], ◌∷◌, length, arith, inl, inr, refl, ap}
use Rattle.std.proofs.lemmas.Bool.{cases_lt}
use Rattle.rlsf_base.specs.declared.memory.range.Range.{Range}
use Rattle.rlsf_base.specs.Range.{LiesIn}
use Rattle.rlsf_model.specs.Lists.{IsIn}
use Rattle.rlsf_model.specs.WellFormed.{covers, coverage, itself}
use Rattle.rlsf_model.proofs.Coverage.{covers-inside}

-- the sum of what f is at the n numbers from `low` on
abbrev total : (ℕ → ℕ) → ℕ → ℕ → ℕ
total f low zero = 0
total f low (suc n) = f (low + n) + total f low n

total-add : (f g : ℕ → ℕ) (low n : ℕ) → total (λ a. f a + g a) low n ≡ total f low n + total g low n
total-add f g low zero = omega arith
total-add f g low (suc n) = omega (arith, total-add f g low n)

total-le : (f : ℕ → ℕ) (low n : ℕ) → ((a : ℕ) → f a ≤ 1) → total f low n ≤ n
total-le f low zero few = omega arith
total-le f low (suc n) few = omega (arith, few (low + n), total-le f low n few)

-- what f is at one of the numbers is part of the sum
total-at : (f : ℕ → ℕ) (low n a : ℕ) → low ≤ a → a < low + n → f a ≤ total f low n
total-at f low zero a from below = absurd (omega arith)
total-at f low (suc n) a from below = elim (cases_lt a (low + n)) [
  | inl before ↦ omega (arith, total-at f low n a from before)
  | inr last ↦ let is : a ≡ low + n = omega arith in omega (arith, ap f is)
]

-- a range that isn't empty and lies in the n bytes from `low` on
abbrev pub IsSomeIn : ℕ → ℕ → Range → Type 0
IsSomeIn low n r = (0 < r.len) × LiesIn r low n

-- each of the ranges has an address
length-total : (xs : List Range) (low n : ℕ) → ((r : Range) → IsIn r xs → IsSomeIn low n r) → length xs ≤ total (λ a. coverage itself xs a) low n
length-total [] low n some = omega arith
length-total (x ∷ xs) low n some =
    let here = some x (inl refl) in
    let first : 1 ≤ covers x x.start = omega (arith, covers-inside x x.start (omega arith) (omega (arith, here.0))) in
    let one : covers x x.start ≤ total (λ a. covers x a) low n = total-at (λ a. covers x a) low n x.start (here.1.0) (omega (arith, here.0, here.1.1)) in
    omega (arith, total-add (λ a. covers x a) (λ a. coverage itself xs a) low n, length-total xs low n (λ r i. some r (inr i)))

pub length-disjoint : (xs : List Range) (low n : ℕ) → ((r : Range) → IsIn r xs → IsSomeIn low n r) → ((a : ℕ) → coverage itself xs a ≤ 1) → length xs ≤ n
length-disjoint xs low n some apart = omega (arith, length-total xs low n some, total-le (λ a. coverage itself xs a) low n apart)
