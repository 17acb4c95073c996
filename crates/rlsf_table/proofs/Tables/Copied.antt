-- The word of a row, copied one bit after another.
use Rattle.std.proofs.Common.{◌≡◌, ◌≢◌, ℕ, ◌+◌, ◌==◌, nat_lt, Bool, true, false, ◌&&◌, ◌||◌, arith, refl, sym, ◌∙◌, ap}
use Rattle.std.proofs.Math.Bool.{or-false}
use Rattle.std.proofs.lemmas.Bool.{cases_eq, cases_lt, eq-eqb, ne_eqb, lt-ltb, le-ltb, or_right, and_from, and_left}

-- one more place makes a difference there alone
lt-next : (k place : ℕ) → k ≢ place → nat_lt k place ≡ nat_lt k (place + 1)
lt-next k place apart = grind (arith, cases_lt, lt-ltb, le-ltb)

and-false : (b : Bool) → (b && false) ≡ false
and-false true = refl
and-false false = refl

-- before the first place nothing is copied
pub copied-nothing : (word : ℕ → Bool) (k : ℕ) → false ≡ (word k && nat_lt k 0)
copied-nothing word k = sym (and-false (word k)) ∙ ap (λ b. word k && b) (sym (le-ltb k 0 (omega arith)))

module _ (word : ℕ → Bool) (k place : ℕ) (was : Bool) (copied : was ≡ (word k && nat_lt k place)) where
  -- a one is copied
  pub copied-one : (now : Bool) → now ≡ (was || (k == place)) → word place ≡ true → now ≡ (word k && nat_lt k (place + 1))
  copied-one now set one = grind (arith, cases_eq, or_right, eq-eqb, and_from, nat_lt, lt-ltb, ne_eqb, or-false, lt-next)

  -- where there is none, nothing is
  pub copied-none : word place ≡ false → was ≡ (word k && nat_lt k (place + 1))
  copied-none none = grind (arith, cases_eq, and_left, nat_lt, lt-next)
