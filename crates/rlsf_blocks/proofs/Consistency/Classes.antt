-- Sizes of blocks, and the indices of their classes.
use Rattle.std.proofs.Common.{◌≡◌, ℕ, ◌+◌, ◌<◌, ◌≤◌, Some, None, arith, sym, ◌∙◌, ap}
use mathlib.Core.Path.{ap₂}
use Rattle.std.proofs.lemmas.Bool.{cases_lt, cond-true, cond-false, lt-ltb, le-ltb}
use Rattle.rlsf_model_sizes.specs.PowerOfTwo.{floor_log2}
use Rattle.rlsf_model_sizes.specs.SizeClass.{IsValidClass, class_of}
use Rattle.rlsf_model_sizes.specs.Sizes.{IsSize, indices, map_floor}
use Rattle.rlsf_base.proofs.Numbers.PowersOfTwo.{floor_log2-lt, pow-between}
use Rattle.rlsf_base.proofs.SizeClasses.Reach.{division-lt}
use Rattle.rlsf_table.specs.Table.{IsClassAt}
use Rattle.rlsf_blocks.specs.Consistency.Linked.{SameClass}

-- a size is in the first row or behind it
pub exponent-le : (sllen size : ℕ) → IsSize size → 5 ≤ (class_of sllen size).exponent
exponent-le sllen size is = pow-between size 5 (floor_log2 size) (omega (arith, is)) (floor_log2-lt size is.0)

-- sizes whose classes have the same indices have one class
pub SameClass-indices : (sllen size other : ℕ) → IsSize size → IsSize other → indices (class_of sllen size) ≡ indices (class_of sllen other)
    → SameClass sllen size other
SameClass-indices sllen size other is has same =
    let low = exponent-le sllen size is in let below = exponent-le sllen other has in let rows = ap (λ (p : ℕ × ℕ). p.0) same in
    ap₂ (λ k j. record { exponent = k; division = j }) (omega (arith, low, below, rows)) (ap (λ (p : ℕ × ℕ). p.1) same)

module _ (fllen sllen size : ℕ) where
  valid-some : IsValidClass fllen (class_of sllen size) → map_floor fllen sllen size ≡ Some (indices (class_of sllen size))
  valid-some valid = cond-true _ (Some (indices (class_of sllen size))) None (lt-ltb (class_of sllen size).exponent (5 + fllen) valid)

  -- a size of a valid class has indices
  pub map_floor-none : map_floor fllen sllen size ≡ None → IsValidClass fllen (class_of sllen size) → ⊥
  map_floor-none none valid = let clash : Some (indices (class_of sllen size)) ≡ None = sym (valid-some valid) ∙ none in absurd (cc)

  -- and a size with indices has a valid class, which they name
  pub map_floor-valid : (at : ℕ × ℕ) → map_floor fllen sllen size ≡ Some at → IsValidClass fllen (class_of sllen size)
  map_floor-valid at some = grind (arith, cases_lt, cond-false, le-ltb)

  pub map_floor-some : (fl sl : ℕ) → 0 < sllen → IsSize size → map_floor fllen sllen size ≡ Some (fl, sl) → IsClassAt fllen sllen size fl sl
  map_floor-some fl sl any is some =
      let valid = map_floor-valid (fl, sl) some in
      let named : Some (indices (class_of sllen size)) ≡ Some (fl, sl) = sym (valid-some valid) ∙ some in
      let pair : indices (class_of sllen size) ≡ (fl, sl) = cc in
      let low = exponent-le sllen size is in
      let rows = ap (λ (p : ℕ × ℕ). p.0) pair in
      let places = ap (λ (p : ℕ × ℕ). p.1) pair in
      let exponent : (class_of sllen size).exponent ≡ 5 + fl = omega (arith, low, rows) in
      record {
        row = omega (arith, valid, exponent);
        place = omega (arith, places, division-lt sllen size is.0 any);
        class = ap₂ (λ k j. record { exponent = k; division = j }) exponent places;
      }

-- a size has one pair of indices
pub IsClassAt-same : (fllen sllen size fl sl row place : ℕ) → IsClassAt fllen sllen size fl sl → IsClassAt fllen sllen size row place → (fl ≡ row) × (sl ≡ place)
IsClassAt-same fllen sllen size fl sl row place at there = grind arith
