-- A size that is moved up until its highest one is at position 63, and the positions that name its class.
use Rattle.std.proofs.Common.{◌≡◌, ℕ, suc, ◌+◌, ◌-◌, ◌*◌, ◌/◌, ◌%◌, ◌^◌, ◌<◌, ◌≤◌, arith, sym, ◌∙◌, ap}
use Rattle.std.proofs.lemmas.Nat.{pow_pos, shl_whole}
use Rattle.std.proofs.Math.Nat.{mul-div-mul_right, pow-suc, mul-le-mul_right}
use Rattle.rlsf_base.proofs.Layouts.{pow-quotient}
use Rattle.rlsf_base.proofs.SizeMaps.Quotients.{IsRoundedUp, IsRoundedUp-by_one, IsRoundedUp-scaled}

module _ (sllen i size k : ℕ) (power : sllen ≡ 2 ^ i) (few : i ≤ 7) (low : 2 ^ k ≤ size) (high : size < 2 * 2 ^ k) (word : k ≤ 63) where
  top : size * 2 ^ (63 - k) % 2 ^ 64 ≡ size * 2 ^ (63 - k)
  top = let below : size < 2 ^ suc k = omega (arith, pow-suc 2 k) in let sum : suc k + (63 - k) ≤ 64 = omega arith in shl_whole size (suc k) (63 - k) 64 below sum

  -- the fraction with 2 ^ 63 is that with SLLEN
  cross : size * 2 ^ (63 - k) * 2 ^ k ≡ size * sllen * 2 ^ (63 - i)
  cross =
      let by_k : 2 ^ 63 ≡ 2 ^ (63 - k) * 2 ^ k = pow-quotient k 63 word in
      let by_i : 2 ^ 63 ≡ 2 ^ (63 - i) * 2 ^ i = pow-quotient i 63 (omega arith) in
      omega (arith, ap (λ n. size * n) (sym by_k ∙ by_i), ap (λ n. size * n * 2 ^ (63 - i)) power)

  -- the leading ones, cut off
  pub parts : size * 2 ^ (63 - k) % 2 ^ 64 / 2 ^ (63 - i) ≡ size * sllen / 2 ^ k
  parts =
      ap (λ n. n / 2 ^ (63 - i)) top
      ∙ sym (mul-div-mul_right (size * 2 ^ (63 - k)) (2 ^ (63 - i)) (pow_pos k))
      ∙ ap (λ n. n / (2 ^ (63 - i) * 2 ^ k)) cross
      ∙ ap (λ n. size * sllen * 2 ^ (63 - i) / n) (omega arith)
      ∙ mul-div-mul_right (size * sllen) (2 ^ k) (pow_pos (63 - i))

  pub top_positive : 0 < size * 2 ^ (63 - k) % 2 ^ 64
  top_positive = let least : 2 ^ k * 2 ^ (63 - k) ≤ size * 2 ^ (63 - k) = mul-le-mul_right (2 ^ (63 - k)) low in omega (arith, top, pow-quotient k 63 word)

  -- the same, rounded up
  pub parts_rounded_up : IsRoundedUp (size * sllen) (2 ^ k) ((size * 2 ^ (63 - k) % 2 ^ 64 - 1) / 2 ^ (63 - i) + 1)
  parts_rounded_up =
      let t = size * 2 ^ (63 - k) % 2 ^ 64 in
      IsRoundedUp-scaled t (2 ^ (63 - i)) (size * sllen) (2 ^ k) _ (pow_pos (63 - i)) (pow_pos k) (ap (λ n. n * 2 ^ k) top ∙ cross)
      (IsRoundedUp-by_one t (2 ^ (63 - i)) top_positive (pow_pos (63 - i)))
