use mathlib.Core.Path.{ap₂}
use Rattle.std.proofs.Common.{inl, inr, refl, ◌≡◌, ℕ, ◌+◌, ◌-◌, ◌*◌, ◌/◌, ◌%◌, ◌^◌, ◌<◌, ◌≤◌, IsTrue, arith, sym, ap, ◌∙◌}
use Rattle.std.proofs.lemmas.Bool.{cases_lt, cond-true, cond-false, lt-ltb, le-ltb}
use Rattle.std.proofs.lemmas.Nat.{div_below, le-div, pow_pos}
use Rattle.std.proofs.Math.Nat.{div-eq_of_lt-le, le_of_mul-le-mul_right, lt_of_mul-lt-mul_right, mod-eq-sub-div-mul, mul-le-mul_right}
use Rattle.rlsf_model_sizes.specs.SizeClass.{is_row_length, reaching_class}
use Rattle.rlsf_model_sizes.specs.Sizes.{indices}
use Rattle.rlsf_base.proofs.SizeMaps.Quotients.{IsRoundedUp}
use Rattle.rlsf_base.proofs.SizeMaps.Reaching.{in_row, reaching_class-at}
use Rattle.rlsf_base.proofs.SizeMaps.RowLengths.{IsPower-row_length}
use Rattle.rlsf_base.proofs.classes.reaching_class.Goals as goal

module _ (sllen size k t : ℕ) (row : IsTrue (is_row_length sllen)) (low : 2 ^ k ≤ size) (high : size < 2 * 2 ^ k) (rounded : IsRoundedUp (size * sllen) (2 ^ k) t) where
  above : sllen ≤ t
  above = let least : 2 ^ k * sllen ≤ size * sllen = mul-le-mul_right sllen low in le_of_mul-le-mul_right {k = 2 ^ k} (omega (arith, rounded.reached)) (pow_pos k)

  most : t ≤ 2 * sllen
  most =
      let next : (size + 1) * sllen ≤ 2 * 2 ^ k * sllen = mul-le-mul_right sllen (omega arith) in
      let below : t < 2 * sllen + 1 = lt_of_mul-lt-mul_right (2 ^ k) {m = t} {n = 2 * sllen + 1} (omega (arith, rounded.tight, pow_pos k)) in
      omega arith

  quotient : (1 ≤ t / sllen) × (t / sllen ≤ 2)
  quotient =
      let some = (IsPower-row_length sllen row).some in
      let least = le-div 1 t sllen some (omega (arith, above)) in
      let less : t / sllen < 3 = div_below t sllen 3 some (omega (arith, most, some)) in
      (least, omega arith)

  -- the quotient says whether the next row begins, and the rest is the place
  reached : (k + t / sllen - 6, t % sllen) ≡ indices (reaching_class sllen size)
  reached =
      let is = IsPower-row_length sllen row in
      ap₂ (λ q r. (k + q - 6, r)) refl (mod-eq-sub-div-mul t sllen) ∙ elim (cases_lt t (2 * sllen)) [
        | inl less ↦
            let once : t / sllen ≡ 1 = div-eq_of_lt-le sllen {m = t} (omega (arith, above)) (omega arith) in
            let at : t - 1 * sllen ≡ t - sllen = omega arith in
            let same_row : k + 1 - 6 ≡ k - 5 = omega arith in
            ap (λ q. (k + q - 6, t - q * sllen)) once
            ∙ ap₂ (λ i j. (i, j)) same_row at
            ∙ ap indices (sym (reaching_class-at sllen size k is.some low high t rounded ∙ cond-true _ (in_row k (t - sllen)) (in_row (k + 1) 0) (lt-ltb t (2 * sllen) less)))
        | inr end ↦
            let twice : t / sllen ≡ 2 = div-eq_of_lt-le sllen {m = t} (omega arith) (omega (arith, most, is.some)) in
            let none : t - 2 * sllen ≡ 0 = omega (arith, most) in
            let next : k + 2 - 6 ≡ k + 1 - 5 = omega arith in
            ap (λ q. (k + q - 6, t - q * sllen)) twice
            ∙ ap₂ (λ i j. (i, j)) next none
            ∙ ap indices (sym (reaching_class-at sllen size k is.some low high t rounded ∙ cond-false _ (in_row k (t - sllen)) (in_row (k + 1) 0) (le-ltb t (2 * sllen) end)))
      ]

pub overflow_add-result : goal.overflow_add-result
overflow_add-result g c =
    let row = c.reaching_parts-row.ensures.row in
    let is : IsRoundedUp (c.args.size * g.row.SLLEN) (2 ^ c.reaching_parts-row.result.0) c.reaching_parts-row.result.1 =
    record { reached = c.reaching_parts-row.ensures.parts.0; tight = c.reaching_parts-row.ensures.parts.1 } in
    record { fits = omega (arith, row.1, (quotient g.row.SLLEN c.args.size c.reaching_parts-row.result.0 c.reaching_parts-row.result.1 c.requires.parameters row.2 row.3 is).1) }

pub overflow_sub-result : goal.overflow_sub-result
overflow_sub-result g c =
    let row = c.reaching_parts-row.ensures.row in
    let is : IsRoundedUp (c.args.size * g.row.SLLEN) (2 ^ c.reaching_parts-row.result.0) c.reaching_parts-row.result.1 =
    record { reached = c.reaching_parts-row.ensures.parts.0; tight = c.reaching_parts-row.ensures.parts.1 } in
    omega (arith, row.0, (quotient g.row.SLLEN c.args.size c.reaching_parts-row.result.0 c.reaching_parts-row.result.1 c.requires.parameters row.2 row.3 is).0)

pub returns : goal.returns
returns g c =
    let row = c.reaching_parts-row.ensures.row in
    reached g.row.SLLEN c.args.size c.reaching_parts-row.result.0 c.reaching_parts-row.result.1 c.requires.parameters row.2 row.3
    (record { reached = c.reaching_parts-row.ensures.parts.0; tight = c.reaching_parts-row.ensures.parts.1 })
