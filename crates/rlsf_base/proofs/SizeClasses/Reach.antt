-- The laws of size classes.
use Rattle.std.proofs.Common.{◌≡◌, ℕ, suc, ◌+◌, ◌-◌, ◌*◌, ◌%◌, ◌^◌, ◌<◌, ◌≤◌, ◌↔◌, arith, inl, inr, ap}
use Rattle.std.proofs.lemmas.Bool.{cases_lt}
use Rattle.std.proofs.lemmas.Nat.{div_below, pow_pos}
use Rattle.std.proofs.Math.Nat.{div-add-mod', le_of_mul-le-mul_right, mod-lt, mul-le-mul_right, pow-suc}
use Rattle.std.proofs.Math.Pow.{pow_mono}
use Rattle.rlsf_model_sizes.specs.PowerOfTwo.{floor_log2}
use Rattle.rlsf_model_sizes.specs.SizeClass.{class_of, IsValidClass, class_start, Reaches}
use Rattle.rlsf_base.proofs.Numbers.PowersOfTwo.{floor_log2-le, floor_log2-lt}

-- ---- the class of a size

module _ (sllen size : ℕ) (some : 0 < size) where
  -- a size is its row's power of two, and less than that again
  split : (2 ^ floor_log2 size ≤ size) × (size - 2 ^ floor_log2 size < 2 ^ floor_log2 size)
  split = (floor_log2-le size some, omega (arith, floor_log2-lt size some, floor_log2-le size some, pow-suc 2 (floor_log2 size)))

  pub division-lt : 0 < sllen → (class_of sllen size).division < sllen
  division-lt any = grind (arith, mul-le-mul_right, split, div_below, pow_pos)

  -- what a size has above its row's start, in SLLENths of a byte, and what is left of it in its class
  parts : size * sllen ≡ class_start sllen (class_of sllen size) + ((size - 2 ^ floor_log2 size) * sllen) % 2 ^ floor_log2 size
  parts =
      let p = 2 ^ floor_log2 size in
      let whole : size ≡ p + (size - p) = omega (arith, split.0) in
      omega (arith, ap (λ n. n * sllen) whole, div-add-mod' ((size - p) * sllen) p)

  -- each size is at or above the start of its class
  pub class_start-le : class_start sllen (class_of sllen size) ≤ size * sllen
  class_start-le = omega (arith, parts)

  -- and below the start of the class after it
  pub class_start-lt : size * sllen < class_start sllen (class_of sllen size) + 2 ^ floor_log2 size
  class_start-lt = omega (arith, parts, mod-lt ((size - 2 ^ floor_log2 size) * sllen) (pow_pos (floor_log2 size)))

  -- what the class of a block reaches, the block is long enough for
  pub Reaches-class_of : (wanted : ℕ) → 0 < sllen → Reaches sllen (class_of sllen size) wanted → wanted ≤ size
  Reaches-class_of wanted any reached =
      le_of_mul-le-mul_right {k = sllen} (omega (arith, class_start-le, reached)) any

  -- a block that is longer by one SLLENth than what is wanted has a class that reaches it
  pub Reaches-from_slack : (wanted : ℕ) → wanted * (sllen + 1) ≤ size * sllen → Reaches sllen (class_of sllen size) wanted
  Reaches-from_slack wanted slack = grind (arith, cases_lt, mul-le-mul_right, class_start-lt)

  -- a size has a valid class exactly where it is below the end of the last row
  pub IsValidClass-class_of : (fllen : ℕ) → IsValidClass fllen (class_of sllen size) ↔ (size < 2 ^ (5 + fllen))
  IsValidClass-class_of fllen =
      let k = floor_log2 size in (
        (λ valid. let row : 2 ^ suc k ≤ 2 ^ (5 + fllen) = pow_mono (omega arith) in omega (arith, floor_log2-lt size some)),
        (λ below. elim (cases_lt k (5 + fllen)) [
          | inl valid ↦ valid
          | inr above ↦ let row : 2 ^ (5 + fllen) ≤ 2 ^ k = pow_mono above in absurd (omega (arith, split.0))
        ]),
      )
