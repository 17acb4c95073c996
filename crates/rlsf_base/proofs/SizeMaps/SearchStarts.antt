-- The classes from where a search begins are those that reach its size.
use mathlib.Core.Path.{ap₂}
use Rattle.std.proofs.Common.{◌≡◌, ℕ, ◌+◌, ◌-◌, ◌*◌, ◌^◌, ◌<◌, ◌≤◌, Option, Some, None, MatchOption, arith, inl, inr, sym, ◌∙◌, ap, subst}
use Rattle.std.proofs.lemmas.Bool.{cases_lt, cond-true, cond-false, lt-ltb, le-ltb}
use Rattle.std.proofs.lemmas.Nat.{pow_pos}
use Rattle.std.proofs.Math.Nat.{lt_of_mul-lt-mul_right, mul-le-mul_right}
use Rattle.rlsf_base.specs.SearchStart.{CanBegin, IsSearchStart, NoneReaches}
use Rattle.rlsf_model_sizes.specs.SizeClass.{SizeClass, IsAtMost, IsFirstReaching, reaching_class, class_at}
use Rattle.rlsf_model_sizes.specs.Sizes.{IsSize, indices, valid_indices}
use Rattle.rlsf_base.proofs.SizeClasses.Order.{IsFirstReaching-reaching_class, Reaches-IsAtMost}
use Rattle.rlsf_base.proofs.SizeMaps.Quotients.{IsRoundedUp}
use Rattle.rlsf_base.proofs.SizeMaps.Reaching.{class_rounded, in_row, reaching_class-at}
use Rattle.rlsf_base.proofs.SizeMaps.Unmapped.{row_after}

-- ---- the indices of a class

-- a class has no indices if it is past the rows, and else its own
pub valid_indices-none : (fllen : ℕ) (c : SizeClass) → valid_indices fllen c ≡ None → 5 + fllen ≤ c.exponent
valid_indices-none fllen c none = grind (arith, cases_lt, cond-true, lt-ltb)

pub valid_indices-some : (fllen : ℕ) (c : SizeClass) (at : ℕ × ℕ) → valid_indices fllen c ≡ Some at → (c.exponent < 5 + fllen) × (indices c ≡ at)
valid_indices-some fllen c at some = grind (arith, cases_lt, cond-true, lt-ltb, cond-false, le-ltb)

-- ---- the search begins at the first class that reaches the size

module _ (fllen sllen size : ℕ) (any : 0 < sllen) (is : IsSize size) where
  reaching : IsFirstReaching sllen size (reaching_class sllen size)
  reaching = IsFirstReaching-reaching_class sllen size any is.0

  -- the first row is that of the size 32
  first_row : 5 ≤ (reaching_class sllen size).exponent
  first_row =
      let least : 2 ^ 5 * sllen ≤ size * sllen = mul-le-mul_right sllen (omega (arith, is)) in
      row_after sllen 0 (reaching_class sllen size) any reaching.in_row 5 (omega (arith, reaching.reached))

  -- no class of the rows reaches the size if the first that does is past them
  past_rows : 5 + fllen ≤ (reaching_class sllen size).exponent → NoneReaches fllen sllen size
  past_rows past d in_row reached = elim (reaching.first d in_row reached) [ inl less ↦ omega arith | inr within ↦ omega (arith, within.0) ]

  -- the search begins at a class that is at most those that the first one is
  same_from : (fl sl : ℕ) → fl < fllen → CanBegin sllen sl
      → ((d : SizeClass) → d.division < sllen → IsAtMost (class_at fl sl) d → IsAtMost (reaching_class sllen size) d)
      → ((d : SizeClass) → d.division < sllen → IsAtMost (reaching_class sllen size) d → IsAtMost (class_at fl sl) d) → IsSearchStart fllen sllen size fl sl
  same_from fl sl row place down up = record {
    row = row;
    place = place;
    reached = λ d in_row order. Reaches-IsAtMost sllen (reaching_class sllen size) d size reaching.in_row (down d in_row order) reaching.reached;
    first = λ d in_row reached. up d in_row (reaching.first d in_row reached);
  }

  -- at its indices
  IsSearchStart-indices : (at : ℕ × ℕ) → (reaching_class sllen size).exponent < 5 + fllen → indices (reaching_class sllen size) ≡ at
      → IsSearchStart fllen sllen size at.0 at.1
  IsSearchStart-indices at valid same =
      let c = reaching_class sllen size in
      let own_row : c.exponent - 5 ≡ at.0 = ap (λ p. p.0) same in
      let own_place : c.division ≡ at.1 = ap (λ p. p.1) same in
      let row : c.exponent ≡ 5 + at.0 = omega (arith, first_row) in
      let class : c ≡ class_at at.0 at.1 = ap₂ (λ k j. record { exponent = k; division = j }) row own_place in
      same_from at.0 at.1 (omega arith) (inl (subst (λ j. j < sllen) own_place reaching.in_row))
      (λ d in_row order. subst (λ e. IsAtMost e d) (sym class) order) (λ d in_row order. subst (λ e. IsAtMost e d) class order)

  pub IsSearchStart-map_ceil : (o : Option (ℕ × ℕ)) → o ≡ valid_indices fllen (reaching_class sllen size)
      → MatchOption o (NoneReaches fllen sllen size) (λ at. IsSearchStart fllen sllen size at.0 at.1)
  IsSearchStart-map_ceil None none = past_rows (valid_indices-none fllen (reaching_class sllen size) (sym none))
  IsSearchStart-map_ceil (Some at) some =
      let own = valid_indices-some fllen (reaching_class sllen size) at (sym some) in
      IsSearchStart-indices at own.0 own.1

  -- or behind the size's row, which is before the first place of the next one
  module _ (k t : ℕ) (low : 2 ^ k ≤ size) (high : size < 2 * 2 ^ k) (rounded : IsRoundedUp (size * sllen) (2 ^ k) t) (few : sllen ≤ 32) where
    -- no class is behind the first one of the next row
    most : t ≤ 2 * sllen
    most =
        let next : (size + 1) * sllen ≤ 2 * 2 ^ k * sllen = mul-le-mul_right sllen (omega arith) in
        let below : t < 2 * sllen + 1 = lt_of_mul-lt-mul_right (2 ^ k) {m = t} {n = 2 * sllen + 1} (omega (arith, rounded.tight, pow_pos k)) in
        omega arith

    class_is : reaching_class sllen size ≡ class_rounded sllen k t
    class_is = reaching_class-at sllen size k any low high t rounded

    within : t < 2 * sllen → reaching_class sllen size ≡ in_row k (t - sllen)
    within less = class_is ∙ cond-true _ (in_row k (t - sllen)) (in_row (k + 1) 0) (lt-ltb t (2 * sllen) less)

    behind : 2 * sllen ≤ t → reaching_class sllen size ≡ in_row (k + 1) 0
    behind end = class_is ∙ cond-false _ (in_row k (t - sllen)) (in_row (k + 1) 0) (le-ltb t (2 * sllen) end)

    past_row : 5 + fllen ≤ k → NoneReaches fllen sllen size
    past_row past = grind (arith, cases_lt, past_rows, within, behind)

    in_own_row : k < 5 + fllen → 5 ≤ k → (at : ℕ × ℕ) → (k - 5, t - sllen) ≡ at → IsSearchStart fllen sllen size at.0 at.1
    in_own_row valid from at same = elim (cases_lt t (2 * sllen)) [
      | inl less ↦ IsSearchStart-indices at (omega (arith, ap (λ c. c.exponent) (within less))) (ap indices (within less) ∙ same)
      | inr end ↦
          let row : at.0 ≡ k - 5 = ap (λ p. p.0) (sym same) in
          let behind_row : t - sllen ≡ sllen = omega (arith, most) in
          let place : at.1 ≡ sllen = ap (λ p. p.1) (sym same) ∙ behind_row in
          same_from at.0 at.1 (omega arith) (inr (place, few))
          (λ d in_row. elim [
            | inl less ↦ subst (λ c. IsAtMost c d) (sym (behind end)) (elim (cases_lt (k + 1) d.exponent) [ inl far ↦ inl far | inr near ↦ inr (omega arith, omega arith) ])
            | inr own ↦ absurd (omega (arith, own.1))
          ])
          (λ d in_row order. elim (subst (λ c. IsAtMost c d) (behind end) order) [ inl less ↦ inl (omega arith) | inr own ↦ inl (omega (arith, own.0)) ])
    ]

    pub IsSearchStart-parts : 5 ≤ k → (o : Option (ℕ × ℕ)) → o ≡ valid_indices fllen (in_row k (t - sllen))
        → MatchOption o (NoneReaches fllen sllen size) (λ at. IsSearchStart fllen sllen size at.0 at.1)
    IsSearchStart-parts from None none = past_row (valid_indices-none fllen (in_row k (t - sllen)) (sym none))
    IsSearchStart-parts from (Some at) some = let own = valid_indices-some fllen (in_row k (t - sllen)) at (sym some) in in_own_row own.0 from at own.1
