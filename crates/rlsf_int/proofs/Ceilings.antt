-- Rounding up to a multiple of a power of two, as the integers' code does it.
use Rattle.std.proofs.Common.{◌≡◌, ℕ, suc, ◌+◌, ◌-◌, ◌*◌, ◌/◌, ◌%◌, ◌^◌, ◌<◌, ◌≤◌, bit_and, sym, ap, ◌∙◌, subst, arith, inl, inr}
use Rattle.std.proofs.Common.{None, Some, pow-add}
use Rattle.std.specs.Prelude.{ℤ, pos, negsuc, ◌+ℤ◌, ◌≤ℤ◌, ◌<ℤ◌, FitsSigned}
use Rattle.std.proofs.Math.Nat.{add-mul, dvd-sub, zero-mod}
use Rattle.std.proofs.lemmas.Bool.{cases_lt}
use Rattle.std.proofs.lemmas.Int.{by_lt_z, ints, to_z-of_z, to_z_pos}
use Rattle.std.proofs.lemmas.Nat.{div-add-mod', mod-mul-add, mod_below, mul-le, one_shl, pow_below, pow_pos}
use Rattle.std.proofs.lemmas.Nat.Bits.{and_high_mask}
use Rattle.std.proofs.lemmas.Nat.Gcd.{dvd_of_mod-eq-zero, mod-eq-zero_of_dvd}
use Rattle.std.specs.Int.{Width, cast_signed, cast_unsigned}
use Rattle.rlsf_int.specs.Ceilings.{IsCeiling, IsCheckedCeiling, IsMultiple}
use mir.Val.{bits, hbits}
use mir.ValLaws.{bits-suc, pow-bits, to_z-neg}

-- ---- multiples

-- two multiples that differ are a step apart
apart : (step x y : ℕ) → x % step ≡ 0 → y % step ≡ 0 → x < y → x + step ≤ y
apart step x y mx my less = grind (arith, div-add-mod', cases_lt, mul-le, add-mul)

apart_z : (step : ℕ) (m a : ℤ) → IsMultiple step m → IsMultiple step a → m <ℤ a → (m +ℤ pos step) ≤ℤ a
apart_z step (pos x) (pos y) mx my less = let far = apart step x y mx my (omega (arith, ints)) in omega (arith, ints)
apart_z step (pos x) (negsuc y) mx my less = absurd (omega (arith, ints))
apart_z step (negsuc x) (pos y) mx my less = let far = apart step 0 (suc x) (zero-mod step) mx (omega arith) in omega (arith, ints)
apart_z step (negsuc x) (negsuc y) mx my less = let far = apart step (suc y) (suc x) my mx (omega (arith, ints)) in omega (arith, ints)

-- a multiple that is less than a step above the value is its ceiling
ceiling : (step : ℕ) (value a : ℤ) → IsMultiple step a → value ≤ℤ a → a <ℤ (value +ℤ pos step) → IsCeiling step value a
ceiling step value a multiple above near = record {
  multiple = multiple;
  above = above;
  least = λ m mult over. by_lt_z m a (λ less. let far = apart_z step m a mult multiple less in absurd (omega (arith, ints))) (λ le. le);
}

pow-multiple : (k j : ℕ) → k ≤ j → 2 ^ j % 2 ^ k ≡ 0
pow-multiple k j le =
    let sum : j ≡ (j - k) + k = omega arith in
    let split : 2 ^ j ≡ 2 ^ (j - k) * 2 ^ k + 0 = ap (λ m. 2 ^ m) sum ∙ pow-add 2 (j - k) k ∙ omega arith in
    ap (λ m. m % 2 ^ k) split ∙ mod-mul-add (2 ^ (j - k)) (2 ^ k) 0 (pow_pos k)

floor-multiple : (n step : ℕ) → 0 < step → n / step * step % step ≡ 0
floor-multiple n step some = let same : n / step * step ≡ n / step * step + 0 = omega arith in ap (λ m. m % step) same ∙ mod-mul-add (n / step) step 0 some

-- ---- rounding up

-- the code's mask, whose ones are from k on
mask_is : (w : Width) (k : ℕ) → k < bits w → 2 ^ bits w - 1 - (1 * 2 ^ k % 2 ^ bits w - 1) ≡ 2 ^ bits w - 2 ^ k
mask_is w k within = let one = one_shl k (bits w) within in omega (arith, pow_pos k, pow_below k (bits w) within)

module _ (w : Width) (value k sum : ℕ) (within : k < bits w) (is : sum ≡ value + (1 * 2 ^ k % 2 ^ bits w - 1)) where
  pub ceil_unsigned : sum < 2 ^ bits w
      → IsCheckedCeiling (bits w) (2 ^ bits w - 1) k (pos value) (Some (pos (bit_and sum (2 ^ bits w - 1 - (1 * 2 ^ k % 2 ^ bits w - 1)))))
  ceil_unsigned fits =
      let one = one_shl k (bits w) within in
      let some = pow_pos k in
      let cut : bit_and sum (2 ^ bits w - 1 - (1 * 2 ^ k % 2 ^ bits w - 1)) ≡ sum / 2 ^ k * 2 ^ k =
      ap (bit_and sum) (mask_is w k within) ∙ and_high_mask (bits w) k (omega arith) sum fits in
      let parts = div-add-mod' sum (2 ^ k) in
      let rest = mod_below sum (2 ^ k) some in
      subst (λ m. IsCheckedCeiling (bits w) (2 ^ bits w - 1) k (pos value) (Some (pos m))) (sym cut) (record {
        inside = λ _. (ceiling (2 ^ k) (pos value) (pos (sum / 2 ^ k * 2 ^ k)) (floor-multiple sum (2 ^ k) some) (omega (arith, ints)) (omega (arith, ints)), omega (arith, ints));
        outside = λ past. absurd (omega arith);
      })

  pub refused_unsigned : value < 2 ^ bits w → (sum < 2 ^ bits w → ⊥) → IsCheckedCeiling (bits w) (2 ^ bits w - 1) k (pos value) None
  refused_unsigned small over =
      let one = one_shl k (bits w) within in
      record {
        inside = λ _ m c. by_lt_z (pos (2 ^ bits w - 1)) m (λ h. h) (λ le.
            let far = apart_z (2 ^ k) m (pos (2 ^ bits w)) c.multiple (pow-multiple k (bits w) (omega arith)) (omega (arith, ints, pow_pos (bits w))) in
            let above = c.above in
            absurd (omega (arith, ints, pow_pos k)));
        outside = λ past. absurd (omega arith);
      }

difference : (step x y : ℕ) → x % step ≡ 0 → y % step ≡ 0 → (x - y) % step ≡ 0
difference step x y mx my = mod-eq-zero_of_dvd step (dvd-sub step (dvd_of_mod-eq-zero step mx) (dvd_of_mod-eq-zero step my))

-- a is the greatest multiple that isn't above z, and is a number of the signed type
record IsFloor (w : Width) (step : ℕ) (z a : ℤ) : Type 0 where
  multiple : IsMultiple step a
  below : a ≤ℤ z
  near : z <ℤ (a +ℤ pos step)

-- `(2 ^ k - 1).cast_signed()`, the fraction of a signed value
module _ (w : Width) (k : ℕ) (fraction : ℤ) (within : k < bits w) (is : fraction ≡ cast_signed w (1 * 2 ^ k % 2 ^ bits w - 1)) where
  half : 2 ^ k ≤ 2 ^ hbits w
  half = grind (arith, cases_lt, pow_below)

  fraction_is : fraction ≡ pos (2 ^ k - 1)
  fraction_is = is ∙ ap (λ m. cast_signed w (m - 1)) (one_shl k (bits w) within) ∙ to_z_pos w (2 ^ k - 1) (omega (arith, half, pow_pos k))

  -- the pattern u of z, cut to multiples
  cut_is : (u : ℕ) → u < 2 ^ bits w → bit_and u (2 ^ bits w - 1 - cast_unsigned w fraction) ≡ u / 2 ^ k * 2 ^ k
  cut_is u fits =
      let mask : 2 ^ bits w - 1 - cast_unsigned w fraction ≡ 2 ^ bits w - 2 ^ k =
      ap (λ z. 2 ^ bits w - 1 - cast_unsigned w z) fraction_is ∙ omega (arith, pow_pos k, pow_below k (bits w) within) in
      ap (bit_and u) mask ∙ and_high_mask (bits w) k (omega arith) u fits

  floor_signed : (z : ℤ) → FitsSigned w z → IsFloor w (2 ^ k) z (cast_signed w (bit_and (cast_unsigned w z) (2 ^ bits w - 1 - cast_unsigned w fraction)))
  floor_signed (pos n) fits =
      let low : n < 2 ^ hbits w = fits.sfits in
      let twice = pow-bits w in
      let parts = div-add-mod' n (2 ^ k) in
      let rest = mod_below n (2 ^ k) (pow_pos k) in
      let answer = ap (cast_signed w) (cut_is n (omega arith)) ∙ to_z_pos w (n / 2 ^ k * 2 ^ k) (omega arith) in
      subst (IsFloor w (2 ^ k) (pos n)) (sym answer) (record {
        multiple = floor-multiple n (2 ^ k) (pow_pos k);
        below = omega (arith, ints);
        near = omega (arith, ints);
      })
  floor_signed (negsuc n) fits =
      let low : n < 2 ^ hbits w = fits.sfits in
      let twice = pow-bits w in
      let u = 2 ^ bits w - suc n in
      let m = u / 2 ^ k * 2 ^ k in
      let parts : m + u % 2 ^ k ≡ u = div-add-mod' u (2 ^ k) in
      let rest = mod_below u (2 ^ k) (pow_pos k) in
      let multiple : m % 2 ^ k ≡ 0 = floor-multiple u (2 ^ k) (pow_pos k) in
      let high : 2 ^ hbits w ≤ m = elim (cases_lt m (2 ^ hbits w)) [
        | inl less ↦ let far = apart (2 ^ k) m (2 ^ hbits w) multiple (pow-multiple k (hbits w) (omega (arith, bits-suc w))) less in absurd (omega arith)
        | inr more ↦ more
      ] in
      let p = 2 ^ bits w - m - 1 in
      let spelled : m ≡ 2 ^ bits w - suc p = omega arith in
      let answer = ap (cast_signed w) (cut_is u (omega arith) ∙ spelled) ∙ to_z-neg w p (omega arith) in
      let size : suc p ≡ 2 ^ bits w - m = omega arith in
      subst (IsFloor w (2 ^ k) (negsuc n)) (sym answer) (record {
        multiple = ap (λ x. x % 2 ^ k) size ∙ difference (2 ^ k) (2 ^ bits w) m (pow-multiple k (bits w) (omega arith)) multiple;
        below = omega (arith, ints);
        near = omega (arith, ints);
      })

  -- the sum as the code computes it, from the numbers at the places of value and fraction
  sum_is : (value : ℤ) → FitsSigned w value
      → cast_signed w (cast_unsigned w value) +ℤ cast_signed w (cast_unsigned w fraction) ≡ value +ℤ pos (2 ^ k - 1)
  sum_is value real =
      ap (λ z. z +ℤ cast_signed w (cast_unsigned w fraction)) (to_z-of_z w value real)
      ∙ ap (λ z. value +ℤ cast_signed w (cast_unsigned w z)) fraction_is ∙ ap (λ z. value +ℤ z) (to_z_pos w (2 ^ k - 1) (omega (arith, half, pow_pos k)))

  pub ceil_signed : (value sum : ℤ) → FitsSigned w value → FitsSigned w (cast_signed w (cast_unsigned w value) +ℤ cast_signed w (cast_unsigned w fraction))
      → sum ≡ cast_signed w (cast_unsigned w value) +ℤ cast_signed w (cast_unsigned w fraction)
      → IsCheckedCeiling (bits w) (2 ^ hbits w - 1) k value (Some (cast_signed w (bit_and (cast_unsigned w sum) (2 ^ bits w - 1 - cast_unsigned w fraction))))
  ceil_signed value sum real fits total =
      let floor = floor_signed sum (subst (FitsSigned w) (sym total) fits) in
      let below = floor.below in
      let near = floor.near in
      let is_sum : sum ≡ value +ℤ pos (2 ^ k - 1) = total ∙ sum_is value real in
      let some = pow_pos k in
      let small : sum ≤ℤ pos (2 ^ hbits w - 1) = let known = subst (FitsSigned w) (sym total) fits in omega (arith, ints) in
      record {
        inside = λ _. (ceiling (2 ^ k) value _ floor.multiple (omega (arith, ints)) (omega (arith, ints)), omega (arith, ints));
        outside = λ past. absurd (omega arith);
      }

  pub refused_signed : (value : ℤ) → FitsSigned w value → (FitsSigned w (cast_signed w (cast_unsigned w value) +ℤ cast_signed w (cast_unsigned w fraction)) → ⊥)
      → IsCheckedCeiling (bits w) (2 ^ hbits w - 1) k value None
  refused_signed value real over = record {
    inside = λ _ m c. by_lt_z (pos (2 ^ hbits w - 1)) m (λ h. h) (λ le.
        let far = apart_z (2 ^ k) m (pos (2 ^ hbits w)) c.multiple (pow-multiple k (hbits w) (omega (arith, bits-suc w))) (omega (arith, ints, pow_pos (hbits w))) in
        let above = c.above in
        absurd (over (subst (FitsSigned w) (sym (sum_is value real)) (omega (arith, ints, pow_pos k)))));
    outside = λ past. absurd (omega arith);
  }
