-- Rounding up to a multiple of a power of two, by a mask.
use Rattle.std.proofs.Common.{◌≡◌, ℕ, ◌+◌, ◌-◌, ◌*◌, ◌/◌, ◌^◌, ◌<◌, ◌≤◌, bit_and, arith, sym, ◌∙◌, ap}
use Rattle.std.specs.Int.{next_multiple_of}
use Rattle.std.proofs.Math.Nat.{div-add-mod', div-mul-le_self, lt-div-mul-add, lt_of_mul-lt-mul_right, mul-le-mul_right}
use Rattle.std.proofs.lemmas.Nat.{pow_pos}
use Rattle.std.proofs.lemmas.Nat.Bits.{and_high_mask}
use Rattle.rlsf_model_sizes.specs.PowerOfTwo.{floor_log2, IsPowerOfTwo}
use Rattle.rlsf_base.proofs.Layouts.{pow-quotient}
use Rattle.rlsf_base.proofs.Numbers.PowersOfTwo.{pow-between}
use Rattle.rlsf_base.proofs.Numbers.Roundings.{next_multiple_of-le, next_multiple_of-multiple, next_multiple_of-unique}

module _ (n k : ℕ) (word : k ≤ 63) where
  -- where the multiple fits in a word, so does the sum that the mask cuts
  sum_fits : next_multiple_of n (2 ^ k) < 2 ^ 64 → n + (2 ^ k - 1) < 2 ^ 64
  sum_fits fits =
      let m = next_multiple_of n (2 ^ k) in
      let whole : m / 2 ^ k * 2 ^ k ≡ m = omega (arith, div-add-mod' m (2 ^ k), next_multiple_of-multiple n (2 ^ k) (pow_pos k)) in
      let parts : 2 ^ 64 ≡ 2 ^ (64 - k) * 2 ^ k = pow-quotient k 64 (omega arith) in
      let below : m / 2 ^ k < 2 ^ (64 - k) = lt_of_mul-lt-mul_right (2 ^ k) {m = m / 2 ^ k} {n = 2 ^ (64 - k)} (omega arith) in
      let room : (m / 2 ^ k + 1) * 2 ^ k ≤ 2 ^ (64 - k) * 2 ^ k = mul-le-mul_right (2 ^ k) (omega arith) in
      omega (arith, next_multiple_of-le n (2 ^ k), pow_pos k)

  -- and the mask leaves the multiple
  masked : n + (2 ^ k - 1) < 2 ^ 64 → bit_and (n + (2 ^ k - 1)) (2 ^ 64 - 1 - (2 ^ k - 1)) ≡ next_multiple_of n (2 ^ k)
  masked fits =
      let sum = n + (2 ^ k - 1) in
      let mask : 2 ^ 64 - 1 - (2 ^ k - 1) ≡ 2 ^ 64 - 2 ^ k = omega (arith, pow_pos k) in
      let low : sum / 2 ^ k * 2 ^ k ≤ sum = div-mul-le_self sum (2 ^ k) in
      let high : sum < sum / 2 ^ k * 2 ^ k + 2 ^ k = lt-div-mul-add (pow_pos k) in
      ap (bit_and sum) mask ∙ and_high_mask 64 k (omega arith) sum fits
      ∙ sym (next_multiple_of-unique n (2 ^ k) (sum / 2 ^ k) (pow_pos k) (omega (arith, pow_pos k)) (omega (arith, pow_pos k)))

-- the exponent of a power of two that is a word
exponent : (align : ℕ) → IsPowerOfTwo align → align < 2 ^ 64 → floor_log2 align ≤ 63
exponent align power fits = pow-between align (floor_log2 align) 63 (omega (arith, power)) (omega arith)

module _ (n align : ℕ) (power : IsPowerOfTwo align) (word : align < 2 ^ 64) where
  pub align_up-fits : next_multiple_of n align < 2 ^ 64 → n + (align - 1) < 2 ^ 64
  align_up-fits fits = grind (arith, sum_fits, exponent)

  pub align_up-masked : n + (align - 1) < 2 ^ 64 → bit_and (n + (align - 1)) (2 ^ 64 - 1 - (align - 1)) ≡ next_multiple_of n align
  align_up-masked fits = grind (arith, masked, exponent, bit_and)
