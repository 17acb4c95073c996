-- The order of size classes, and that it agrees with what they reach.
use mathlib.Core.Path.{ap₂}
use Rattle.std.proofs.Common.{◌≡◌, ℕ, suc, ◌+◌, ◌*◌, ◌^◌, ◌<◌, ◌≤◌, ◌⊎◌, Bool, cond, add-one, arith, inl, inr, refl, sym, ◌∙◌, ap, subst}
use Rattle.std.proofs.lemmas.Bool.{cases_lt, cases_order, le-ltb, lt-ltb}
use Rattle.std.proofs.lemmas.Bool.Decides.{leb_tells}
use Rattle.std.proofs.lemmas.Nat.{pow_pos}
use Rattle.std.proofs.Math.Nat.{mul-le-mul_left, mul-le-mul_right, pow-suc}
use Rattle.std.proofs.Math.Pow.{pow_mono}
use Rattle.rlsf_model_sizes.specs.SizeClass.{SizeClass, class_of, IsAtMost, class_start, Reaches, IsFirstReaching, next_class, reaching_class}
use Rattle.rlsf_base.proofs.SizeClasses.Reach.{division-lt, class_start-le, class_start-lt}

-- c comes before d
abbrev IsBefore : SizeClass → SizeClass → Type 0
IsBefore c d = (c.exponent < d.exponent) ⊎ ((c.exponent ≡ d.exponent) × (c.division < d.division))

-- ---- the order

pub IsAtMost-refl : (c : SizeClass) → IsAtMost c c
IsAtMost-refl c = inr (refl, omega arith)

pub IsAtMost-trans : (c d e : SizeClass) → IsAtMost c d → IsAtMost d e → IsAtMost c e
IsAtMost-trans c d e (inl p) (inl q) = inl (omega arith)
IsAtMost-trans c d e (inl p) (inr q) = inl (omega (arith, q.0))
IsAtMost-trans c d e (inr p) (inl q) = inl (omega (arith, p.0))
IsAtMost-trans c d e (inr p) (inr q) = inr (p.0 ∙ q.0, omega (arith, p.1, q.1))

pub IsAtMost-antisymm : (c d : SizeClass) → IsAtMost c d → IsAtMost d c → c ≡ d
IsAtMost-antisymm c d (inl p) (inl q) = absurd (omega arith)
IsAtMost-antisymm c d (inl p) (inr q) = absurd (omega (arith, q.0))
IsAtMost-antisymm c d (inr p) (inl q) = absurd (omega (arith, p.0))
IsAtMost-antisymm c d (inr p) (inr q) = let same : c.division ≡ d.division = omega (arith, p.1, q.1) in ap₂ (λ k j. record { exponent = k; division = j }) p.0 same

-- of two classes one comes before the other, or is it
IsAtMost-or_before : (c d : SizeClass) → IsAtMost c d ⊎ IsBefore d c
IsAtMost-or_before c d = grind (arith, cases_order, cases_lt)

pub IsAtMost-total : (c d : SizeClass) → IsAtMost c d ⊎ IsAtMost d c
IsAtMost-total c d = grind (arith, IsAtMost-or_before)

-- ---- the order of classes is that of where they begin

-- a class ends where the class after it begins, or earlier
class_start-before : (sllen : ℕ) (c d : SizeClass) → c.division < sllen → IsBefore c d → class_start sllen c + 2 ^ c.exponent ≤ class_start sllen d
class_start-before sllen c d in_row (inl less) =
    let row : 2 ^ suc c.exponent ≤ 2 ^ d.exponent = pow_mono (omega arith) in
    let end : 2 ^ c.exponent * (sllen + (c.division + 1)) ≤ 2 ^ c.exponent * (sllen + sllen) = mul-le-mul_left _ (omega arith) in
    let next : 2 ^ suc c.exponent * sllen ≤ 2 ^ d.exponent * sllen = mul-le-mul_right sllen row in
    let double : 2 ^ suc c.exponent * sllen ≡ 2 ^ c.exponent * 2 * sllen = ap (λ p. p * sllen) (pow-suc 2 c.exponent) in
    omega arith
class_start-before sllen c d in_row (inr within) =
    let place : 2 ^ c.exponent * (sllen + (c.division + 1)) ≤ 2 ^ c.exponent * (sllen + d.division) = mul-le-mul_left _ (omega (arith, within.1)) in
    let row : 2 ^ c.exponent * (sllen + d.division) ≡ 2 ^ d.exponent * (sllen + d.division) = ap (λ k. 2 ^ k * (sllen + d.division)) within.0 in
    omega arith

module _ (sllen : ℕ) (c d : SizeClass) where
  pub class_start-mono : c.division < sllen → IsAtMost c d → class_start sllen c ≤ class_start sllen d
  class_start-mono in_row order = grind (arith, IsAtMost-or_before, IsAtMost-antisymm, class_start-before)

  pub IsAtMost-class_start : d.division < sllen → class_start sllen c ≤ class_start sllen d → IsAtMost c d
  IsAtMost-class_start in_row order = grind (arith, IsAtMost-or_before, class_start-before, pow_pos)

  -- a class after one that reaches a size reaches it too
  pub Reaches-IsAtMost : (size : ℕ) → c.division < sllen → IsAtMost c d → Reaches sllen c size → Reaches sllen d size
  Reaches-IsAtMost size in_row order reached = omega (arith, class_start-mono in_row order)

-- a greater size has no earlier class
pub IsAtMost-class_of : (sllen m n : ℕ) → 0 < sllen → 0 < m → m ≤ n → IsAtMost (class_of sllen m) (class_of sllen n)
IsAtMost-class_of sllen m n any some order = elim (IsAtMost-or_before (class_of sllen m) (class_of sllen n)) [
  | inl at_most ↦ at_most
  | inr before ↦
      let more : 0 < n = omega arith in
      let gap = class_start-before sllen (class_of sllen n) (class_of sllen m) (division-lt sllen n more any) before in
      let sizes : m * sllen ≤ n * sllen = mul-le-mul_right sllen order in
      absurd (omega (arith, gap, class_start-lt sllen n more, class_start-le sllen m some))
]

-- the class of a longer block reaches what that of a shorter one does, and less
pub Reaches-longer : (sllen m n wanted size : ℕ) → 0 < sllen → 0 < m → m ≤ n → size ≤ wanted → Reaches sllen (class_of sllen m) wanted
    → Reaches sllen (class_of sllen n) size
Reaches-longer sllen m n wanted size any some order less reached =
    let times : size * sllen ≤ wanted * sllen = mul-le-mul_right sllen less in
    omega (arith, times, class_start-mono sllen (class_of sllen m) (class_of sllen n) (division-lt sllen m some any) (IsAtMost-class_of sllen m n any some order))

-- ---- the first class that reaches a size

-- what the next class is, inside a row and at its end
next_class-within : (sllen : ℕ) (c : SizeClass) → c.division + 1 < sllen → next_class sllen c ≡ record { exponent = c.exponent; division = c.division + 1 }
next_class-within sllen c within =
    ap (λ b. cond b (record { exponent = c.exponent; division = c.division + 1 }) (record { exponent = c.exponent + 1; division = 0 })) (lt-ltb (c.division + 1) sllen within)

next_class-at_end : (sllen : ℕ) (c : SizeClass) → sllen ≤ c.division + 1 → next_class sllen c ≡ record { exponent = c.exponent + 1; division = 0 }
next_class-at_end sllen c end =
    ap (λ b. cond b (record { exponent = c.exponent; division = c.division + 1 }) (record { exponent = c.exponent + 1; division = 0 })) (le-ltb (c.division + 1) sllen end)

-- n is the class after c: it begins where c ends, and no class is between them
record IsNext (sllen : ℕ) (c n : SizeClass) : Type 0 where
  in_row : n.division < sllen
  starts : class_start sllen n ≡ class_start sllen c + 2 ^ c.exponent
  first : (d : SizeClass) → d.division < sllen → IsBefore c d → IsAtMost n d

IsNext-next_class : (sllen : ℕ) (c : SizeClass) → c.division < sllen → IsNext sllen c (next_class sllen c)
IsNext-next_class sllen c in_row = elim (cases_lt (c.division + 1) sllen) [
  | inl within ↦ subst (IsNext sllen c) (sym (next_class-within sllen c within)) (record {
    in_row = within;
    starts = omega arith;
    first = λ d d_in_row. elim [ inl less ↦ inl less | inr later ↦ inr (later.0, omega (arith, later.1)) ];
  })
  | inr end ↦ subst (IsNext sllen c) (sym (next_class-at_end sllen c end)) (record {
    in_row = omega arith;
    starts =
        let whole : sllen + c.division + 1 ≡ 2 * sllen = omega arith in
        let double : 2 ^ (c.exponent + 1) ≡ 2 ^ c.exponent * 2 = ap (λ k. 2 ^ k) (add-one c.exponent) ∙ pow-suc 2 c.exponent in
        omega (arith, ap (λ p. p * (sllen + 0)) double, ap (λ n. 2 ^ c.exponent * n) whole);
    first = λ d d_in_row. elim [
      | inl less ↦ elim (cases_lt (c.exponent + 1) d.exponent) [ inl far ↦ inl far | inr near ↦ inr (omega arith, omega arith) ]
      | inr later ↦ absurd (omega (arith, later.1))
    ];
  })
]

-- where a size's own class begins at the size, it is the first that reaches it, and else the class after it is
pub IsFirstReaching-reaching_class : (sllen size : ℕ) → 0 < sllen → 0 < size → IsFirstReaching sllen size (reaching_class sllen size)
IsFirstReaching-reaching_class sllen size any some =
    let own = class_of sllen size in
    let own_in_row : own.division < sllen = division-lt sllen size some any in
    let start : class_start sllen own ≤ size * sllen = class_start-le sllen size some in
    let after : IsNext sllen own (next_class sllen own) = IsNext-next_class sllen own own_in_row in
    let choose = λ (b : Bool). cond b own (next_class sllen own) in
    elim (leb_tells (size * sllen) (class_start sllen own)) [
      | inl at ↦ subst (λ b. IsFirstReaching sllen size (choose b)) (sym at.0) (record {
        in_row = own_in_row;
        reached = at.1;
        first = λ d d_in_row d_reached. IsAtMost-class_start sllen own d d_in_row (omega arith);
      })
      | inr above ↦ subst (λ b. IsFirstReaching sllen size (choose b)) (sym above.0) (record {
        in_row = after.in_row;
        reached = omega (arith, after.starts, class_start-lt sllen size some);
        first = λ d d_in_row d_reached. elim (IsAtMost-or_before d own) [
          | inl back ↦ absurd (omega (arith, class_start-mono sllen d own d_in_row back, above.1))
          | inr later ↦ after.first d d_in_row later
        ];
      })
    ]
