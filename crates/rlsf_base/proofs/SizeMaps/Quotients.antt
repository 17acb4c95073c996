-- Quotients that are rounded up.
use Rattle.std.proofs.Common.{◌≡◌, ℕ, ◌+◌, ◌-◌, ◌*◌, ◌/◌, ◌<◌, ◌≤◌, arith}
use Rattle.std.proofs.Math.Nat.{le_of_mul-le-mul_right, lt_of_mul-lt-mul_right, mul-le-mul_right, div-mul-le_self, lt-div-mul-add}

-- t is n / p, rounded up
pub record IsRoundedUp (n p t : ℕ) : Type 0 where
  pub reached : n ≤ t * p
  pub tight : t * p < n + p

-- where n / p lies above a and not above a + 1
pub IsRoundedUp-between : (n p t a : ℕ) → IsRoundedUp n p t → a * p < n → n ≤ (a + 1) * p → t ≡ a + 1
IsRoundedUp-between n p t a is above below =
    let more : a < t = lt_of_mul-lt-mul_right p {m = a} {n = t} (omega (arith, is.reached)) in
    let less : t < a + 2 = lt_of_mul-lt-mul_right p {m = t} {n = a + 2} (omega (arith, is.tight)) in
    omega arith

-- two equal fractions are rounded up alike
pub IsRoundedUp-scaled : (m b n p t : ℕ) → 0 < b → 0 < p → m * p ≡ n * b → IsRoundedUp m b t → IsRoundedUp n p t
IsRoundedUp-scaled m b n p t some_b some_p same is =
    let low : m * p ≤ t * b * p = mul-le-mul_right p is.reached in
    let high : (t * b + 1) * p ≤ (m + b) * p = mul-le-mul_right p (omega (arith, is.tight)) in
    record {
      reached = le_of_mul-le-mul_right {k = b} (omega arith) some_b;
      tight = lt_of_mul-lt-mul_right b {m = t * p} {n = n + p} (omega arith);
    }

-- one less, divided, and one more
pub IsRoundedUp-by_one : (n p : ℕ) → 0 < n → 0 < p → IsRoundedUp n p ((n - 1) / p + 1)
IsRoundedUp-by_one n p some_n some_p = grind (arith, div-mul-le_self, lt-div-mul-add)

-- less than a whole added, and divided
pub IsRoundedUp-by_rest : (n p : ℕ) → 0 < p → IsRoundedUp n p ((n + (p - 1)) / p)
IsRoundedUp-by_rest n p some_p = grind (arith, div-mul-le_self, lt-div-mul-add)
