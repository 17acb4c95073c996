-- A size rounded up to where the first class that reaches it begins.
use Rattle.std.proofs.Common.{◌≡◌, ℕ, suc, ◌+◌, ◌-◌, ◌*◌, ◌/◌, ◌^◌, ◌<◌, ◌≤◌, arith, inl, inr, sym, ◌∙◌, ap}
use Rattle.std.proofs.lemmas.Bool.{cases_lt, cond-true, cond-false, lt-ltb, le-ltb}
use Rattle.std.proofs.lemmas.Nat.{pow_pos}
use Rattle.std.proofs.Math.Nat.{le_of_mul-le-mul_right, lt_of_mul-lt-mul_right, mul-div_cancel_left, mul-le-mul_left, mul-le-mul_right, pow-suc}
use Rattle.rlsf_model_sizes.specs.SizeClass.{SizeClass, class_of, class_start, reaching_class}
use Rattle.rlsf_base.proofs.Layouts.{pow-quotient}
use Rattle.rlsf_base.proofs.SizeMaps.Quotients.{IsRoundedUp, IsRoundedUp-by_rest, IsRoundedUp-scaled}
use Rattle.rlsf_base.proofs.SizeMaps.Reaching.{in_row, class_rounded, class_of-at, reaching_class-at}

-- where the class begins that a quotient gives
class_start-at : (sllen k t : ℕ) → sllen ≤ t → t ≤ 2 * sllen → class_start sllen (class_rounded sllen k t) ≡ t * 2 ^ k
class_start-at sllen k t least most = elim (cases_lt t (2 * sllen)) [
  | inl within ↦
      let place : sllen + (t - sllen) ≡ t = omega arith in
      ap (class_start sllen) (cond-true _ (in_row k (t - sllen)) (in_row (k + 1) 0) (lt-ltb t (2 * sllen) within)) ∙ omega (arith, ap (λ n. 2 ^ k * n) place)
  | inr end ↦
      let all : t ≡ 2 * sllen = omega arith in
      let step : k + 1 ≡ suc k = omega arith in
      let double : 2 ^ (k + 1) ≡ 2 ^ k * 2 = ap (λ j. 2 ^ j) step ∙ pow-suc 2 k in
      ap (class_start sllen) (cond-false _ (in_row k (t - sllen)) (in_row (k + 1) 0) (le-ltb t (2 * sllen) end))
      ∙ omega (arith, ap (λ n. n * sllen) double, ap (λ n. n * 2 ^ k) all)
]

-- a size where a class begins is of that class
pub class_of-start : (sllen size : ℕ) (c : SizeClass) → 0 < sllen → c.division < sllen → size * sllen ≡ class_start sllen c → class_of sllen size ≡ c
class_of-start sllen size c some in_row_c start =
    let p = 2 ^ c.exponent in
    let row : p * sllen ≤ p * (sllen + c.division) = mul-le-mul_left p (omega arith) in
    let least : p * sllen ≤ size * sllen = omega (arith, start) in
    let below : p * (sllen + c.division + 1) ≤ p * (2 * sllen) = mul-le-mul_left p (omega arith) in
    let low : p ≤ size = le_of_mul-le-mul_right {k = sllen} least some in
    let high : size < 2 * p = lt_of_mul-lt-mul_right sllen {m = size} {n = 2 * p} (omega (arith, start, below, pow_pos c.exponent)) in
    let quotient : size * sllen / p ≡ sllen + c.division = ap (λ n. n / p) start ∙ mul-div_cancel_left (sllen + c.division) (pow_pos c.exponent) in
    let place : size * sllen / p - sllen ≡ c.division = omega arith in
    class_of-at sllen size c.exponent some low high ∙ ap (in_row c.exponent) place

-- ---- the size that is rounded up, to the width of a class of its row where that is a byte or more

-- the size rounded up
abbrev pub rounded : ℕ → ℕ → ℕ → ℕ
rounded i k size = (size + (2 ^ (k - i) - 1)) / 2 ^ (k - i) * 2 ^ (k - i)

module _ (sllen i size k : ℕ) (power : sllen ≡ 2 ^ i) (low : 2 ^ k ≤ size) (high : size < 2 * 2 ^ k) where
  rounding : IsRoundedUp size (2 ^ (k - i)) ((size + (2 ^ (k - i) - 1)) / 2 ^ (k - i))
  rounding = IsRoundedUp-by_rest size (2 ^ (k - i)) (pow_pos (k - i))

  some : 0 < sllen
  some = omega (arith, pow_pos i)

  -- it is a whole number of classes
  quotient : (t : ℕ) × IsRoundedUp (size * sllen) (2 ^ k) t × (rounded i k size * sllen ≡ t * 2 ^ k)
  quotient = elim (cases_lt k i) [
    | inl narrow ↦
        let none : k - i ≡ 0 = omega arith in
        let one : 2 ^ (k - i) ≡ 1 = ap (λ e. 2 ^ e) none in
        let same : rounded i k size ≡ size = omega (arith, rounding.reached, rounding.tight) in
        let parts : 2 ^ i ≡ 2 ^ (i - k) * 2 ^ k = pow-quotient k i (omega arith) in
        let whole : size * sllen ≡ size * 2 ^ (i - k) * 2 ^ k = omega (arith, ap (λ n. size * n) (power ∙ parts)) in
        (size * 2 ^ (i - k), record { reached = omega arith; tight = omega (arith, pow_pos k) }, ap (λ n. n * sllen) same ∙ whole)
    | inr wide ↦
        let t = (size + (2 ^ (k - i) - 1)) / 2 ^ (k - i) in
        let parts : 2 ^ k ≡ 2 ^ (k - i) * sllen = pow-quotient i k wide ∙ ap (λ n. 2 ^ (k - i) * n) (sym power) in
        let cross : size * 2 ^ k ≡ size * sllen * 2 ^ (k - i) = omega (arith, ap (λ n. size * n) parts) in
        (t, IsRoundedUp-scaled size (2 ^ (k - i)) (size * sllen) (2 ^ k) t (pow_pos (k - i)) (pow_pos k) cross rounding, omega (arith, ap (λ n. t * n) parts))
  ]

  -- it is where the first class that reaches the size begins
  pub class_start-rounded : rounded i k size * sllen ≡ class_start sllen (reaching_class sllen size)
  class_start-rounded =
      let t = quotient.0 in
      let is : IsRoundedUp (size * sllen) (2 ^ k) t = quotient.1 in
      let least : 2 ^ k * sllen ≤ size * sllen = mul-le-mul_right sllen low in
      let most : (size + 1) * sllen ≤ 2 * 2 ^ k * sllen = mul-le-mul_right sllen (omega arith) in
      let from : sllen ≤ t = le_of_mul-le-mul_right {k = 2 ^ k} (omega (arith, is.reached)) (pow_pos k) in
      let to : t < 2 * sllen + 1 = lt_of_mul-lt-mul_right (2 ^ k) {m = t} {n = 2 * sllen + 1} (omega (arith, is.tight, some)) in
      quotient.2 ∙ sym (ap (class_start sllen) (reaching_class-at sllen size k some low high t is) ∙ class_start-at sllen k t from (omega arith))
