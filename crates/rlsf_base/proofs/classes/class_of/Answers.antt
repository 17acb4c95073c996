use Rattle.std.proofs.Common.{◌≡◌, ℕ, ◌-◌, ◌*◌, ◌/◌, ◌%◌, ◌^◌, ◌<◌, ◌≤◌, IsTrue, arith, sym, ap, ◌∙◌, w64}
use Rattle.std.specs.Int.{leading_zeros, trailing_zeros}
use Rattle.std.proofs.lemmas.Nat.{leading_top}
use Rattle.std.proofs.Math.Nat.{pow-suc}
use Rattle.rlsf_model_sizes.specs.SizeClass.{is_row_length}
use Rattle.rlsf_model_sizes.specs.Sizes.{indices}
use Rattle.rlsf_base.proofs.Numbers.PowersOfTwo.{pow-between}
use Rattle.rlsf_base.proofs.SizeMaps.Reaching.{quotient_bounds, class_of-at}
use Rattle.rlsf_base.proofs.SizeMaps.RowLengths.{IsPower-row_length}
use Rattle.rlsf_base.proofs.SizeMaps.Shifts.{parts}
use Rattle.rlsf_base.proofs.classes.class_of.Goals as goal

-- the exponent of a size's row
record IsRow (size k : ℕ) : Type 0 where
  pub leading : leading_zeros w64 size ≡ 63 - k
  pub least : 5 ≤ k
  pub most : k ≤ 63
  pub low : 2 ^ k ≤ size
  pub high : size < 2 * 2 ^ k

row : (size : ℕ) → 32 ≤ size → size < 2 ^ 64 → (k : ℕ) × IsRow size k
row size some word =
    let (k, count, low, above) = leading_top 64 size (omega arith) word in
    let double = pow-suc 2 k in (
      k,
      record {
        leading = omega (arith, count);
        least = pow-between size 5 k (omega arith) (omega (arith, above));
        most = omega (arith, count);
        low = low;
        high = omega (arith, above, double);
      },
    )

-- the leading positions, as the code computes them
cut : (sllen size k : ℕ) → IsTrue (is_row_length sllen) → IsRow size k
    → size * 2 ^ leading_zeros w64 size % 2 ^ 64 / 2 ^ (63 - trailing_zeros w64 sllen) ≡ size * sllen / 2 ^ k
cut sllen size k length is =
    let power = IsPower-row_length sllen length in
    ap (λ n. size * 2 ^ n % 2 ^ 64 / 2 ^ (63 - trailing_zeros w64 sllen)) is.leading ∙ parts sllen _ size k power.power power.few is.low is.high is.most

pub overflow_sub-result : goal.overflow_sub-result
overflow_sub-result g c = let (k, is) = row c.args.size c.requires.size (omega arith) in omega (arith, is.leading, is.least)

pub overflow_shl-parts : goal.overflow_shl-parts
overflow_shl-parts g c = let (k, is) = row c.args.size c.requires.size (omega arith) in omega (arith, is.leading)

pub overflow_sub-result-2 : goal.overflow_sub-result-2
overflow_sub-result-2 g c =
    let (k, is) = row c.args.size c.requires.size (omega arith) in
    let some = (IsPower-row_length g.row.SLLEN c.requires.parameters).some in
    omega (arith, cut g.row.SLLEN c.args.size k c.requires.parameters is, (quotient_bounds g.row.SLLEN c.args.size k some is.low is.high).0)

pub returns : goal.returns
returns g c =
    let (k, is) = row c.args.size c.requires.size (omega arith) in
    let some = (IsPower-row_length g.row.SLLEN c.requires.parameters).some in
    let at : 58 - leading_zeros w64 c.args.size ≡ k - 5 = omega (arith, is.leading, is.least, is.most) in
    ap (λ n. (58 - leading_zeros w64 c.args.size, n - g.row.SLLEN)) (cut g.row.SLLEN c.args.size k c.requires.parameters is)
    ∙ ap (λ n. (n, c.args.size * g.row.SLLEN / 2 ^ k - g.row.SLLEN)) at
    ∙ ap indices (sym (class_of-at g.row.SLLEN c.args.size k some is.low is.high))
