-- Rounding up by a mask of ones.
use Rattle.std.proofs.Common.{◌≡◌, ℕ, ◌+◌, ◌-◌, ◌*◌, ◌/◌, ◌^◌, ◌<◌, ◌≤◌, bit_and, arith, inl, inr, sym, ◌∙◌, ap}
use Rattle.std.proofs.lemmas.Bool.{cases_lt}
use Rattle.std.proofs.lemmas.Nat.{and-not, and_comm, and_mask, le-div, pow_below, pow_pos, shr-shr, shr_split}
use Rattle.std.proofs.Math.Nat.{div-eq_of_lt, div-eq_of_lt-le, mul-le-mul_right}
use Rattle.rlsf_base.proofs.Layouts.{pow-quotient}
use Rattle.rlsf_base.proofs.SizeMaps.Starts.{rounded}

module _ (i k : ℕ) (word : k ≤ 63) where
  -- the width of a class of row k, less one
  pub mask : (2 ^ 64 - 1) / 2 ^ (i + 1) / 2 ^ (63 - k) ≡ 2 ^ (k - i) - 1
  mask = shr-shr (2 ^ 64 - 1) (i + 1) (63 - k) ∙ elim (cases_lt k i) [
    | inl narrow ↦
        let none : k - i ≡ 0 = omega arith in
        let beyond : 2 ^ 64 < 2 ^ (i + 1 + (63 - k)) = pow_below 64 (i + 1 + (63 - k)) (omega arith) in
        div-eq_of_lt (omega arith) ∙ ap (λ e. 2 ^ e - 1) (sym none)
    | inr wide ↦
        let rest : i + 1 + (63 - k) ≡ 64 - (k - i) = omega arith in
        let back : 64 - (64 - (k - i)) ≡ k - i = omega arith in
        let parts : 2 ^ 64 ≡ 2 ^ (k - i) * 2 ^ (64 - (k - i)) = pow-quotient (64 - (k - i)) 64 (omega arith) ∙ ap (λ e. 2 ^ e * 2 ^ (64 - (k - i))) back in
        let some : 2 ^ (k - i) ≡ 2 ^ (k - i) - 1 + 1 = omega (arith, pow_pos (k - i)) in
        let split : 2 ^ 64 ≡ (2 ^ (k - i) - 1 + 1) * 2 ^ (64 - (k - i)) = parts ∙ ap (λ n. n * 2 ^ (64 - (k - i))) some in
        ap (λ e. (2 ^ 64 - 1) / 2 ^ e) rest
        ∙ div-eq_of_lt-le (2 ^ (64 - (k - i))) (omega (arith, split, pow_pos (64 - (k - i)))) (omega (arith, split))
  ]

  -- where the sum with the mask fits, the ones of the mask are cleared in it
  pub rounded-fits : (size : ℕ) → size + (2 ^ (k - i) - 1) < 2 ^ 64 → bit_and (size + (2 ^ (k - i) - 1)) (2 ^ 64 - 1 - (2 ^ (k - i) - 1)) ≡ rounded i k size
  rounded-fits size fits =
      let n = size + (2 ^ (k - i) - 1) in
      let m = 2 ^ (k - i) - 1 in
      omega (arith, and_comm n (2 ^ 64 - 1 - m), and-not 64 m n (omega arith) fits, and_comm m n, and_mask n (k - i), shr_split n (k - i))

  -- and where it doesn't, neither does the size that is rounded up
  pub rounded-past : (size : ℕ) → 2 ^ 64 ≤ size + (2 ^ (k - i) - 1) → 2 ^ 64 ≤ rounded i k size
  rounded-past size past =
      let n = size + (2 ^ (k - i) - 1) in
      let parts : 2 ^ 64 ≡ 2 ^ (64 - (k - i)) * 2 ^ (k - i) = pow-quotient (k - i) 64 (omega arith) in
      let times : 2 ^ (64 - (k - i)) ≤ n / 2 ^ (k - i) = le-div (2 ^ (64 - (k - i))) n (2 ^ (k - i)) (pow_pos (k - i)) (omega arith) in
      let whole : 2 ^ (64 - (k - i)) * 2 ^ (k - i) ≤ n / 2 ^ (k - i) * 2 ^ (k - i) = mul-le-mul_right (2 ^ (k - i)) times in
      omega arith
