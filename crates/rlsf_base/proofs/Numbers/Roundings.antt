-- The laws of rounding up.
use Rattle.std.proofs.Common.{◌≡◌, ℕ, ◌+◌, ◌-◌, ◌*◌, ◌/◌, ◌%◌, ◌<◌, ◌≤◌, arith, inl, inr, ◌∙◌, ap}
use Rattle.std.proofs.lemmas.Bool.{cases_eq, cases_lt}
use Rattle.std.proofs.Math.Nat.{div-add-mod', mod-eq_of_lt, mod_self, mod-lt, mul-le-mul_right, mul-mod_left, sub-zero}
use Rattle.std.specs.Int.{next_multiple_of}
use Rattle.rlsf_model_sizes.specs.Rounding.{round32}

-- rounding up takes nothing away
pub next_multiple_of-le : (x y : ℕ) → x ≤ next_multiple_of x y
next_multiple_of-le x y = omega arith

-- rounding up adds less than a whole multiple
pub next_multiple_of-lt : (x y : ℕ) → 0 < y → next_multiple_of x y < x + y
next_multiple_of-lt x y some = omega arith

-- rounding up leaves no rest
pub next_multiple_of-multiple : (x y : ℕ) → 0 < y → next_multiple_of x y % y ≡ 0
next_multiple_of-multiple x y some = elim (cases_eq (x % y) 0) [
  | inl whole ↦
      let none : (y - x % y) % y ≡ 0 = ap (λ r. (y - r) % y) whole ∙ ap (λ r. r % y) (sub-zero y) ∙ mod_self y in
      let same : next_multiple_of x y ≡ x = omega arith in
      ap (λ n. n % y) same ∙ whole
  | inr part ↦
      let rest : x % y < y = mod-lt x some in
      let added : (y - x % y) % y ≡ y - x % y = mod-eq_of_lt (omega arith) in
      let next : next_multiple_of x y ≡ (x / y + 1) * y = omega (arith, div-add-mod' x y) in
      ap (λ n. n % y) next ∙ mul-mod_left (x / y + 1) y
]

-- no lesser multiple is as great
pub next_multiple_of-least : (x y times : ℕ) → 0 < y → x ≤ times * y → next_multiple_of x y ≤ times * y
next_multiple_of-least x y times some above =
    let n = next_multiple_of x y in
    let whole : n / y * y ≡ n = omega (arith, div-add-mod' n y, next_multiple_of-multiple x y some) in
    elim (cases_lt times (n / y)) [
      | inl more ↦
          let apart : (times + 1) * y ≤ n / y * y = mul-le-mul_right y (omega arith) in
          absurd (omega (arith, next_multiple_of-lt x y some))
      | inr at_most ↦ let order : n / y * y ≤ times * y = mul-le-mul_right y at_most in omega arith
    ]

-- the multiple that is as great, and less than a whole one more, is that
pub next_multiple_of-unique : (x y times : ℕ) → 0 < y → x ≤ times * y → times * y < x + y → next_multiple_of x y ≡ times * y
next_multiple_of-unique x y times some above below =
    let n = next_multiple_of x y in
    let whole : n / y * y ≡ n = omega (arith, div-add-mod' n y, next_multiple_of-multiple x y some) in
    elim (cases_lt (n / y) times) [
      | inl more ↦
          let apart : (n / y + 1) * y ≤ times * y = mul-le-mul_right y (omega arith) in
          absurd (omega (arith, next_multiple_of-le x y))
      | inr at_most ↦ let order : times * y ≤ n / y * y = mul-le-mul_right y at_most in omega (arith, next_multiple_of-least x y times some above)
    ]

-- ---- multiples of 32

pub round32-le : (n : ℕ) → n ≤ round32 n
round32-le n = next_multiple_of-le n 32

pub round32-lt : (n : ℕ) → round32 n < n + 32
round32-lt n = omega arith

pub round32-multiple : (n : ℕ) → round32 n % 32 ≡ 0
round32-multiple n = omega arith

pub round32-least : (n m : ℕ) → m % 32 ≡ 0 → n ≤ m → round32 n ≤ m
round32-least n m whole above = omega arith

pub round32-same : (n : ℕ) → n % 32 ≡ 0 → round32 n ≡ n
round32-same n whole = omega arith

pub round32-mono : (m n : ℕ) → m ≤ n → round32 m ≤ round32 n
round32-mono m n order = omega arith
