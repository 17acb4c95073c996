-- The class of a block, from the highest one of twice its size and one.
use Rattle.std.proofs.Common.{◌≡◌, ℕ, suc, ◌+◌, ◌-◌, ◌*◌, ◌/◌, ◌^◌, ◌<◌, ◌≤◌, Bool, ◌||◌, IsTrue, arith, sym, subst, ◌∙◌, ap}
use Rattle.std.specs.Prelude.{◌==◌}
use Rattle.std.proofs.lemmas.Bool.{eqb-true, or_cases}
use Rattle.std.proofs.Math.Nat.{div-div-eq-div-mul, mul-div-mul_right, pow-suc}
use Rattle.rlsf_model_sizes.specs.SizeClass.{is_row_length}
use Rattle.rlsf_base.proofs.Layouts.{pow-quotient}
use Rattle.rlsf_base.proofs.Numbers.PowersOfTwo.{pow-between}

-- a row length divides 32, or 32 divides it
pub record IsScaled (n : ℕ) : Type 0 where
  pub some : 0 < n
  pub most : n ≤ 128
  pub many : 32 ≤ n → n / 32 * 32 ≡ n
  pub few : n < 32 → 32 / n * n ≡ 32
  pub divisor : n < 32 → 0 < 32 / n

or_at : (n m : ℕ) (rest : Bool) → (IsTrue rest → IsScaled n) → IsScaled m → IsTrue (rest || n == m) → IsScaled n
or_at n m rest others is told = grind (arith, or_cases, eqb-true)

pub IsScaled-row_length : (n : ℕ) → IsTrue (is_row_length n) → IsScaled n
IsScaled-row_length n =
    let at : (m : ℕ) → 0 < m → m ≤ 128 → (32 ≤ m → m / 32 * 32 ≡ m) → (m < 32 → 32 / m * m ≡ 32) → (m < 32 → 0 < 32 / m) → IsScaled m =
    λ m s o l f d. record { some = s; most = o; many = l; few = f; divisor = d } in
    or_at n 128 _ (or_at n 64 _ (or_at n 32 _ (or_at n 16 _ (or_at n 8 _ (or_at n 4 _ (or_at n 2 _
    (λ first. subst IsScaled (sym (eqb-true n 1 first)) (at 1 (omega arith) (omega arith) (λ h. omega (arith, h)) (λ h. omega (arith, h)) (λ h. omega (arith, h))))
    (at 2 (omega arith) (omega arith) (λ h. omega (arith, h)) (λ h. omega (arith, h)) (λ h. omega (arith, h))))
    (at 4 (omega arith) (omega arith) (λ h. omega (arith, h)) (λ h. omega (arith, h)) (λ h. omega (arith, h))))
    (at 8 (omega arith) (omega arith) (λ h. omega (arith, h)) (λ h. omega (arith, h)) (λ h. omega (arith, h))))
    (at 16 (omega arith) (omega arith) (λ h. omega (arith, h)) (λ h. omega (arith, h)) (λ h. omega (arith, h))))
    (at 32 (omega arith) (omega arith) (λ h. omega (arith, h)) (λ h. omega (arith, h)) (λ h. omega (arith, h))))
    (at 64 (omega arith) (omega arith) (λ h. omega (arith, h)) (λ h. omega (arith, h)) (λ h. omega (arith, h))))
    (at 128 (omega arith) (omega arith) (λ h. omega (arith, h)) (λ h. omega (arith, h)) (λ h. omega (arith, h)))

-- the row of a size, by the exponent of twice the size and one
pub record IsRow (size e : ℕ) : Type 0 where
  pub least : 6 ≤ e
  pub low : 2 ^ (e - 1) ≤ size
  pub high : size < 2 * 2 ^ (e - 1)

pub IsRow-doubled : (size e : ℕ) → 32 ≤ size → 2 ^ e ≤ 2 * size + 1 → 2 * size + 1 < 2 * 2 ^ e → IsRow size e
IsRow-doubled size e some low high =
    let least : 6 ≤ e = pow-between (2 * size + 1) 6 e (omega arith) (omega (arith, high, pow-suc 2 e)) in
    let e_is : e ≡ suc (e - 1) = omega (arith, least) in
    let double : 2 ^ e ≡ 2 * 2 ^ (e - 1) = ap (λ n. 2 ^ n) e_is ∙ (omega (arith, pow-suc 2 (e - 1))) in
    record { least = least; low = omega (arith, low, double); high = omega (arith, high, double) }

module _ (sllen size k : ℕ) (is : IsScaled sllen) (least : 5 ≤ k) where
  power : 2 ^ k ≡ 2 ^ (k - 5) * 32
  power = pow-quotient 5 k least

  -- the leading ones of a row with 32 classes or more
  pub parts_many : 32 ≤ sllen → size * (sllen / 32) / 2 ^ (k - 5) ≡ size * sllen / 2 ^ k
  parts_many some =
      let whole : size * (sllen / 32) * 32 ≡ size * sllen = omega (arith, ap (λ n. size * n) (is.many some)) in
      sym (mul-div-mul_right (size * (sllen / 32)) (2 ^ (k - 5)) (omega arith))
      ∙ ap (λ n. n / (2 ^ (k - 5) * 32)) whole
      ∙ ap (λ n. size * sllen / n) (sym power)

  -- and of a shorter row
  pub parts_few : sllen < 32 → size / (32 / sllen) / 2 ^ (k - 5) ≡ size * sllen / 2 ^ k
  parts_few some =
      let whole : 32 / sllen * 2 ^ (k - 5) * sllen ≡ 2 ^ k = omega (arith, power, ap (λ n. 2 ^ (k - 5) * n) (is.few some)) in
      div-div-eq-div-mul size (32 / sllen) (2 ^ (k - 5))
      ∙ sym (mul-div-mul_right size (32 / sllen * 2 ^ (k - 5)) is.some)
      ∙ ap (λ n. size * sllen / n) whole
