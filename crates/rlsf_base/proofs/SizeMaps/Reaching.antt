-- The class of a size and the first class that reaches it, from the quotient of the size and its row.
use Rattle.std.proofs.Common.{◌≡◌, ℕ, ◌+◌, ◌-◌, ◌*◌, ◌/◌, ◌^◌, ◌<◌, ◌≤◌, arith, sym, ◌∙◌, ap, inl, inr, cond, leb}
use Rattle.std.specs.Prelude.{nat_lt}
use Rattle.std.proofs.lemmas.Bool.{cases_lt, cond-true, cond-false, lt-ltb, le-ltb}
use Rattle.std.proofs.lemmas.Bool.Decides.{leb_tells}
use Rattle.std.proofs.lemmas.Nat.{pow_pos, le-div, div_below}
use Rattle.std.proofs.Math.Nat.{add-mul-div_right, div-mul-le_self, lt-div-mul-add, mul-le-mul_right, pow-suc}
use Rattle.rlsf_model_sizes.specs.PowerOfTwo.{floor_log2}
use Rattle.rlsf_model_sizes.specs.SizeClass.{SizeClass, class_of, class_start, next_class, reaching_class}
use Rattle.rlsf_base.proofs.Numbers.PowersOfTwo.{floor_log2-unique}
use Rattle.rlsf_base.proofs.SizeMaps.Quotients.{IsRoundedUp, IsRoundedUp-between}

-- a row, and a place in it
abbrev pub in_row : ℕ → ℕ → SizeClass
in_row k j = record { exponent = k; division = j }

-- the place t - SLLEN of row k, and where t is 2 * SLLEN the first place of the row after it
abbrev pub class_rounded : ℕ → ℕ → ℕ → SizeClass
class_rounded sllen k t = cond (nat_lt t (2 * sllen)) (in_row k (t - sllen)) (in_row (k + 1) 0)

module _ (sllen size k : ℕ) (any : 0 < sllen) (low : 2 ^ k ≤ size) (high : size < 2 * 2 ^ k) where
  -- a size is at least its row's power of two and less than two of them
  pub quotient_bounds : (sllen ≤ size * sllen / 2 ^ k) × (size * sllen / 2 ^ k < 2 * sllen)
  quotient_bounds =
      let least : 2 ^ k * sllen ≤ size * sllen = mul-le-mul_right sllen low in
      let below : (size + 1) * sllen ≤ 2 * 2 ^ k * sllen = mul-le-mul_right sllen (omega arith) in
      (le-div sllen (size * sllen) (2 ^ k) (pow_pos k) (omega arith), div_below (size * sllen) (2 ^ k) (2 * sllen) (pow_pos k) (omega arith))

  pub class_of-at : class_of sllen size ≡ in_row k (size * sllen / 2 ^ k - sllen)
  class_of-at =
      let row : floor_log2 size ≡ k = floor_log2-unique size k low (omega (arith, pow-suc 2 k)) in
      let rest = size - 2 ^ k in
      let size_is : size ≡ rest + 2 ^ k = omega arith in
      let whole : size * sllen ≡ rest * sllen + sllen * 2 ^ k = omega (arith, ap (λ n. n * sllen) size_is) in
      let place : size * sllen / 2 ^ k ≡ rest * sllen / 2 ^ k + sllen = ap (λ n. n / 2 ^ k) whole ∙ add-mul-div_right (rest * sllen) sllen (pow_pos k) in
      let division : rest * sllen / 2 ^ k ≡ size * sllen / 2 ^ k - sllen = omega arith in
      ap (λ j. in_row j ((size - 2 ^ j) * sllen / 2 ^ j)) row ∙ ap (in_row k) division

  pub reaching_class-at : (t : ℕ) → IsRoundedUp (size * sllen) (2 ^ k) t → reaching_class sllen size ≡ class_rounded sllen k t
  reaching_class-at t is =
      let q = size * sllen / 2 ^ k in
      let own = in_row k (q - sllen) in
      let bounds : (sllen ≤ q) × (q < 2 * sllen) = quotient_bounds in
      let down : q * 2 ^ k ≤ size * sllen = div-mul-le_self (size * sllen) (2 ^ k) in
      let up : size * sllen < q * 2 ^ k + 2 ^ k = lt-div-mul-add (pow_pos k) in
      let place : sllen + (q - sllen) ≡ q = omega (arith, bounds.0) in
      let start : class_start sllen own ≡ 2 ^ k * q = ap (λ n. 2 ^ k * n) place in
      ap (λ c. cond (leb (size * sllen) (class_start sllen c)) c (next_class sllen c)) class_of-at
      ∙ elim (leb_tells (size * sllen) (class_start sllen own)) [
        | inl at ↦
            let q_is : q ≡ q - 1 + 1 = omega (arith, bounds.0) in
            let before : (q - 1) * 2 ^ k < size * sllen = omega (arith, ap (λ n. n * 2 ^ k) q_is, pow_pos k) in
            let same : t ≡ q - 1 + 1 = IsRoundedUp-between (size * sllen) (2 ^ k) t (q - 1) is before (omega (arith, ap (λ n. n * 2 ^ k) q_is, at.1)) in
            let t_is : q ≡ t = omega arith in
            cond-true _ own (next_class sllen own) at.0
            ∙ ap (λ n. in_row k (n - sllen)) t_is
            ∙ sym (cond-true _ (in_row k (t - sllen)) (in_row (k + 1) 0) (lt-ltb t (2 * sllen) (omega (arith, bounds.1))))
        | inr above ↦
            let same : t ≡ q + 1 = IsRoundedUp-between (size * sllen) (2 ^ k) t q is (omega (arith, above.1)) (omega arith) in
            cond-false _ own (next_class sllen own) above.0 ∙ elim (cases_lt t (2 * sllen)) [
              | inl within ↦
                  let next : q - sllen + 1 ≡ t - sllen = omega (arith, bounds.0) in
                  cond-true _ (in_row k (q - sllen + 1)) (in_row (k + 1) 0) (lt-ltb (q - sllen + 1) sllen (omega (arith, bounds.0)))
                  ∙ ap (in_row k) next
                  ∙ sym (cond-true _ (in_row k (t - sllen)) (in_row (k + 1) 0) (lt-ltb t (2 * sllen) within))
              | inr end ↦
                  cond-false _ (in_row k (q - sllen + 1)) (in_row (k + 1) 0) (le-ltb (q - sllen + 1) sllen (omega (arith, bounds.0)))
                  ∙ sym (cond-false _ (in_row k (t - sllen)) (in_row (k + 1) 0) (le-ltb t (2 * sllen) end))
            ]
      ]
