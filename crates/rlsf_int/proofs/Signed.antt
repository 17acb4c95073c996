-- The positions of the ones in what a signed type of width w computes. Its values go to the unsigned type and back.
use Rattle.std.proofs.Common.{◌≡◌, ℕ, ◌-◌, ◌*◌, ◌%◌, ◌^◌, ◌<◌, not, ◌&&◌, ◌||◌, ◌==◌, nat_lt, bit_and, bit_or, ap, ◌∙◌, arith}
use Rattle.std.specs.Prelude.{ℤ, FitsSigned}
use Rattle.std.proofs.lemmas.Int.{of_z-to_z, to_z-of_z}
use Rattle.std.proofs.lemmas.Nat.{and_le_l, one_shl, or_lt, pow_below}
use Rattle.std.specs.Int.{Width, cast_signed, cast_unsigned}
use Rattle.rlsf_int.specs.Bits.{bit}
use Rattle.rlsf_int.proofs.Unsigned.{bit-clear_tested, bit-set}
use mir.Val.{bits}

module _ (w : Width) where
  -- the number at a place of the signed type after a cast of the pattern n
  kept : (r : ℤ) (n : ℕ) → n < 2 ^ bits w → r ≡ cast_signed w n → cast_unsigned w (cast_signed w (cast_unsigned w r)) ≡ n
  kept r n fits is =
      let back = of_z-to_z w n fits in
      ap (λ z. cast_unsigned w (cast_signed w (cast_unsigned w z))) is ∙ ap (λ m. cast_unsigned w (cast_signed w m)) back ∙ back

  -- the pattern that is cast from a place of the signed type is its value's
  pub pattern_is : (z : ℤ) (n : ℕ) → FitsSigned w z → n ≡ cast_unsigned w (cast_signed w (cast_unsigned w z)) → n ≡ cast_unsigned w z
  pattern_is z n real old = old ∙ ap (cast_unsigned w) (to_z-of_z w z real)

  -- `(n | 1 << k).cast_signed()`, where n is the old value's pattern
  pub set_signed : (z : ℤ) (n k : ℕ) (r : ℤ) → FitsSigned w z → n < 2 ^ bits w → k < bits w → n ≡ cast_unsigned w (cast_signed w (cast_unsigned w z))
      → r ≡ cast_signed w (bit_or n (1 * 2 ^ k % 2 ^ bits w))
      → (i : ℕ) → bit (cast_unsigned w (cast_signed w (cast_unsigned w r))) i ≡ (bit (cast_unsigned w z) i || (i == k))
  set_signed z n k r real fits within old new i =
      let one_fits : 1 * 2 ^ k % 2 ^ bits w < 2 ^ bits w = omega (arith, one_shl k (bits w) within, pow_below k (bits w) within) in
      ap (λ m. bit m i) (kept r _ (or_lt (bits w) n _ fits one_fits) new) ∙ bit-set w n k within i
      ∙ ap (λ m. bit m i || (i == k)) (old ∙ ap (cast_unsigned w) (to_z-of_z w z real))

  -- `(n & !(1 << k)).cast_signed()`
  pub clear_signed : (z : ℤ) (n k : ℕ) (r : ℤ) → FitsSigned w z → n < 2 ^ bits w → k < bits w → n ≡ cast_unsigned w (cast_signed w (cast_unsigned w z))
      → r ≡ cast_signed w (bit_and n (2 ^ bits w - 1 - 1 * 2 ^ k % 2 ^ bits w))
      → (i : ℕ) → bit (cast_unsigned w (cast_signed w (cast_unsigned w r))) i ≡ (bit (cast_unsigned w z) i && not (i == k && nat_lt k (bits w)))
  clear_signed z n k r real fits within old new i = grind (arith, and_le_l, kept, bit-clear_tested, not, nat_lt, to_z-of_z)
