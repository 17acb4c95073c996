-- The least size of the first class that reaches a size, where that class is valid and its sizes fit in a word.
use Rattle.std.proofs.Common.{◌≡◌, ℕ, suc, ◌+◌, ◌*◌, ◌^◌, ◌<◌, ◌≤◌, Some, None, arith, inl, inr, sym, ◌∙◌, ap, cond, ltb}
use Rattle.std.proofs.lemmas.Bool.{cases_lt, cond-true, cond-false, lt-ltb, le-ltb}
use Rattle.std.proofs.lemmas.Nat.{pow_pos}
use Rattle.std.proofs.Math.Nat.{div-eq_of_eq-mul_left, le_of_mul-le-mul_right, mul-le-mul_left, mul-le-mul_right, pow-suc}
use Rattle.std.proofs.Math.Pow.{pow_mono}
use Rattle.rlsf_model_sizes.specs.SizeClass.{SizeClass, class_start, least_size, reaching_class}
use Rattle.rlsf_model_sizes.specs.Sizes.{map_ceil_and_unmap}
use Rattle.rlsf_base.proofs.SizeClasses.Order.{IsFirstReaching-reaching_class}

-- ---- a size where a class begins is in the class's row

module _ (sllen n : ℕ) (c : SizeClass) (some : 0 < sllen) (in_row : c.division < sllen) where
  pub row_begins : n * sllen ≡ class_start sllen c → 2 ^ c.exponent ≤ n
  row_begins start =
      let row : 2 ^ c.exponent * sllen ≤ 2 ^ c.exponent * (sllen + c.division) = mul-le-mul_left (2 ^ c.exponent) (omega arith) in
      le_of_mul-le-mul_right {k = sllen} (omega (arith, start)) some

  pub row_goes_on : class_start sllen c < 2 ^ suc c.exponent * sllen
  row_goes_on =
      let row : 2 ^ c.exponent * (sllen + c.division + 1) ≤ 2 ^ c.exponent * (2 * sllen) = mul-le-mul_left (2 ^ c.exponent) (omega arith) in
      omega (arith, pow_pos c.exponent, ap (λ p. p * sllen) (pow-suc 2 c.exponent))

  -- such a size is below a power of two exactly where the row begins before it
  pub row_before : (x : ℕ) → n * sllen ≡ class_start sllen c → n < 2 ^ x → c.exponent < x
  row_before x start below = grind (arith, cases_lt, pow_mono, row_begins)

  pub row_after : (x : ℕ) → 2 ^ x * sllen ≤ class_start sllen c → x ≤ c.exponent
  row_after x past = grind (arith, cases_lt, pow_mono, mul-le-mul_right, row_goes_on)

-- ---- what is computed of it

module _ (fllen sllen size : ℕ) (some : 0 < sllen) (any : 0 < size) where
  in_row : (reaching_class sllen size).division < sllen
  in_row = (IsFirstReaching-reaching_class sllen size some any).in_row

  pub unmapped-within : (n : ℕ) → n * sllen ≡ class_start sllen (reaching_class sllen size) → n < 2 ^ 64 → n < 2 ^ (5 + fllen)
      → Some n ≡ map_ceil_and_unmap fllen sllen size
  unmapped-within n start word below =
      let c = reaching_class sllen size in
      let least : least_size sllen c ≡ n = div-eq_of_eq-mul_left some (sym start) in
      let valid = lt-ltb c.exponent (5 + fllen) (row_before sllen n c some in_row (5 + fllen) start below) in
      let fits = lt-ltb c.exponent 64 (row_before sllen n c some in_row 64 start word) in
      sym (cond-true _ (cond (ltb c.exponent 64) (Some (least_size sllen c)) None) None valid ∙ cond-true _ (Some (least_size sllen c)) None fits ∙ ap Some least)

  pub unmapped-invalid : 2 ^ (5 + fllen) * sllen ≤ class_start sllen (reaching_class sllen size) → None ≡ map_ceil_and_unmap fllen sllen size
  unmapped-invalid past = grind (arith, le-ltb, row_after, in_row, cond-false, ltb)

  pub unmapped-past : 2 ^ 64 * sllen ≤ class_start sllen (reaching_class sllen size) → None ≡ map_ceil_and_unmap fllen sllen size
  unmapped-past past =
      let c = reaching_class sllen size in
      let beyond = le-ltb c.exponent 64 (row_after sllen 0 c some in_row 64 past) in
      let none : cond (ltb c.exponent 64) (Some (least_size sllen c)) None ≡ None = cond-false _ (Some (least_size sllen c)) None beyond in
      elim (cases_lt c.exponent (5 + fllen)) [
        | inl before ↦ sym (cond-true _ (cond (ltb c.exponent 64) (Some (least_size sllen c)) None) None (lt-ltb c.exponent (5 + fllen) before) ∙ none)
        | inr after ↦ sym (cond-false _ (cond (ltb c.exponent 64) (Some (least_size sllen c)) None) None (le-ltb c.exponent (5 + fllen) after))
      ]
