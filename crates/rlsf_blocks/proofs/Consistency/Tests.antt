-- Tests of what a loop has passed.
use Rattle.std.proofs.Common.{◌≡◌, ◌↔◌, ℕ, ◌+◌, ◌<◌, Bool, true, true≢false, arith}
use Rattle.std.proofs.lemmas.Bool.{cases_lt}
use mathlib.Core.Bool.{beq}

-- one of the numbers below n has the property
abbrev pub SomeBelow : (ℕ → Type 0) → ℕ → Type 0
SomeBelow P n = (k : ℕ) × (k < n) × P k

-- the next number has it
pub found_here : (P : ℕ → Type 0) (n : ℕ) (after : Bool) → P n → after ≡ true → (after ≡ true) ↔ SomeBelow P (n + 1)
found_here P n after here set = (λ _. (n, omega arith, here), λ _. set)

-- the next number doesn't
pub found_not : (P : ℕ → Type 0) (n : ℕ) (before after : Bool) → (P n → ⊥) → after ≡ before → (before ≡ true) ↔ SomeBelow P n
    → (after ≡ true) ↔ SomeBelow P (n + 1)
found_not P n before after none same found = grind (arith, cases_lt)

-- two tests with equal results
pub same_tests : (a b : Bool) → beq a b ≡ true → a ≡ b
same_tests h1 h2 same = grind (arith, true≢false)

pub tests_same : (a b : Bool) → (a ≡ true → b ≡ true) → (b ≡ true → a ≡ true) → beq a b ≡ true
tests_same h1 h2 to from = grind (arith, true≢false)
