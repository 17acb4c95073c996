-- The two indices of the class of a free block.
use Rattle.std.proofs.Common.{◌≡◌, ℕ, ◌+◌, ◌-◌, ◌≤◌, arith, refl, sym, ◌∙◌, ap}
use mathlib.Core.Path.{ap₂}
use Rattle.rlsf_model_sizes.specs.PowerOfTwo.{floor_log2}
use Rattle.rlsf_model_sizes.specs.SizeClass.{class_of, IsValid}
use Rattle.rlsf_model_sizes.specs.Sizes.{indices}
use Rattle.rlsf_base.specs.declared.memory.range.Range.{Range}
use Rattle.rlsf_base.proofs.Numbers.PowersOfTwo.{floor_log2-lt, pow-between}
use Rattle.rlsf_base.proofs.SizeClasses.Reach.{division-lt}
use Rattle.rlsf_base.proofs.SizeMaps.RowLengths.{IsPower-row_length}
use Rattle.rlsf_model.specs.WellFormed.{IsFree}
use Rattle.rlsf_table.specs.Table.{IsClassAt}

module _ {fl_bits sl_bits fllen sllen : ℕ} {r : Range} (valid : IsValid fl_bits sl_bits fllen sllen) (free : IsFree fllen sllen r) where
  -- a block has room for four words
  pub room : 32 ≤ r.len
  room = omega (arith, free.some, free.whole.len)

  exponent-le : 5 ≤ floor_log2 r.len
  exponent-le = pow-between r.len 5 (floor_log2 r.len) room (floor_log2-lt r.len free.some)

  -- the indices that a size's class has
  IsClassAt-indices : (fl sl : ℕ) → fl ≡ (class_of sllen r.len).exponent - 5 → sl ≡ (class_of sllen r.len).division → IsClassAt fllen sllen r.len fl sl
  IsClassAt-indices fl sl fl_is sl_is =
      let exponent : (class_of sllen r.len).exponent ≡ 5 + fl = omega (arith, exponent-le) in
      record {
        row = omega (arith, free.valid, exponent);
        place = omega (arith, sl_is, division-lt sllen r.len free.some (IsPower-row_length sllen valid.power_of_two).some);
        class = ap₂ (λ k j. record { exponent = k; division = j }) exponent (sym sl_is);
      }

  -- the block's length determines them
  pub IsClassAt-told : (len : ℕ) (told : ℕ × ℕ) → r.len ≡ len → told ≡ indices (class_of sllen len) → IsClassAt fllen sllen r.len told.0 told.1
  IsClassAt-told len told same is =
      let pair = is ∙ ap (λ n. indices (class_of sllen n)) (sym same) in
      IsClassAt-indices told.0 told.1 (ap (λ p. p.0) pair) (ap (λ p. p.1) pair)

  -- its own indices
  pub indices_of : (fl : ℕ) × (sl : ℕ) × IsClassAt fllen sllen r.len fl sl
  indices_of = let c = class_of sllen r.len in (c.exponent - 5, c.division, IsClassAt-indices (c.exponent - 5) c.division refl refl)
