use Rattle.std.proofs.Common.{◌≡◌, ◌-◌, ◌*◌, ◌/◌, ◌^◌, arith, sym, ap, ◌∙◌}
use Rattle.rlsf_model_sizes.specs.Sizes.{indices}
use Rattle.rlsf_base.proofs.SizeMaps.Doubled.{IsRow, IsRow-doubled, IsScaled-row_length}
use Rattle.rlsf_base.proofs.SizeMaps.Reaching.{class_of-at, quotient_bounds}
use Rattle.rlsf_base.proofs.classes.class_of_block.Given as given
use Rattle.rlsf_base.proofs.classes.class_of_block.Goals as goal
use Rattle.rlsf_base.proofs.classes.class_of_block.Goals.{After-ilog2, After-scaled}

row : (g : given.Over) (c : After-ilog2 g) → IsRow c.args.size c.ilog2.result
row g c = IsRow-doubled c.args.size c.ilog2.result c.requires.size.0 c.ilog2.ensures.power_le c.ilog2.ensures.next_power_gt

pub overflow_sub-row : goal.overflow_sub-row
overflow_sub-row g c = (row g (goal.at.overflow_sub-row g c).After-ilog2).least

-- the leading ones
parts : (g : given.Over) (c : After-scaled g) → IsRow c.args.size c.ilog2.result
    → c.scaled.result / 2 ^ (c.ilog2.result - 6) ≡ c.args.size * g.row.SLLEN / 2 ^ (c.ilog2.result - 1)
parts g c is =
    let at : c.ilog2.result - 6 ≡ c.ilog2.result - 1 - 5 = omega (arith, is.least) in
    ap (λ n. c.scaled.result / 2 ^ n) at ∙ c.scaled.ensures (c.ilog2.result - 1) (omega (arith, is.least))

pub overflow_sub-result : goal.overflow_sub-result
overflow_sub-result g c =
    let here = goal.at.overflow_sub-result g c in
    let is = row g here.After-ilog2 in
    let some = (IsScaled-row_length g.row.SLLEN c.requires.parameters).some in
    omega (arith, parts g here.After-scaled is, (quotient_bounds g.row.SLLEN c.args.size (c.ilog2.result - 1) some is.low is.high).0)

pub returns : goal.returns
returns g c =
    let here = goal.at.returns g c in
    let is = row g here.After-ilog2 in
    let some = (IsScaled-row_length g.row.SLLEN c.requires.parameters).some in
    let at : c.ilog2.result - 6 ≡ c.ilog2.result - 1 - 5 = omega (arith, is.least) in
    ap (λ n. (c.ilog2.result - 6, n - g.row.SLLEN)) (parts g here.After-scaled is)
    ∙ ap (λ n. (n, c.args.size * g.row.SLLEN / 2 ^ (c.ilog2.result - 1) - g.row.SLLEN)) at
    ∙ ap indices (sym (class_of-at g.row.SLLEN c.args.size (c.ilog2.result - 1) some is.low is.high))
