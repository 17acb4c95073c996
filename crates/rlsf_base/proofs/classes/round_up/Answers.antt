use Rattle.std.proofs.Common.{◌≡◌, ◌+◌, ◌-◌, ◌*◌, ◌^◌, ◌<◌, ◌≤◌, bit_and, arith, ap, ◌∙◌, w64}
use Rattle.std.specs.Int.{trailing_zeros}
use Rattle.std.proofs.Math.Nat.{mul-le-mul_right}
use Rattle.rlsf_model_sizes.specs.SizeClass.{class_start, reaching_class}
use Rattle.rlsf_base.proofs.SizeMaps.Masks.{mask, rounded-fits, rounded-past}
use Rattle.rlsf_base.proofs.SizeMaps.RowLengths.{IsPower-row_length}
use Rattle.rlsf_base.proofs.SizeMaps.Starts.{class_start-rounded}
use Rattle.rlsf_base.proofs.classes.round_up.Goals as goal

pub overflow_shr-rest : goal.overflow_shr-rest
overflow_shr-rest g c = let is = IsPower-row_length g.row.SLLEN c.requires.parameters in omega (arith, is.few)

pub returns-in_err-checked_add-clause-past : goal.returns-in_err-checked_add-clause-past
returns-in_err-checked_add-clause-past g c =
    let is = IsPower-row_length g.row.SLLEN c.requires.parameters in
    let i = trailing_zeros w64 g.row.SLLEN in
    let row = c.ilog2.ensures in
    let rest = mask i c.ilog2.result (omega arith) in
    let past = rounded-past i c.ilog2.result (omega arith) c.args.size (omega (arith, rest, c.in_err-checked_add.ensures)) in
    let start = class_start-rounded g.row.SLLEN i c.args.size c.ilog2.result is.power row.power_le row.next_power_gt in
    let reached : 2 ^ 64 * g.row.SLLEN ≤ class_start g.row.SLLEN (reaching_class g.row.SLLEN c.args.size) = omega (arith, start, mul-le-mul_right g.row.SLLEN past) in
    rw c.from_residual.ensures reached

pub returns-clause-start : goal.returns-clause-start
returns-clause-start g c =
    let is = IsPower-row_length g.row.SLLEN c.requires.parameters in
    let i = trailing_zeros w64 g.row.SLLEN in
    let k = c.ilog2.result in
    let n = c.in_ok-checked_add.field-0 in
    let row = c.ilog2.ensures in
    let rest = mask i k (omega arith) in
    let sum : n ≡ c.args.size + (2 ^ (k - i) - 1) = omega (arith, rest, c.in_ok-checked_add.ensures) in
    let fits : c.args.size + (2 ^ (k - i) - 1) < 2 ^ 64 = omega (arith, rest, c.in_ok-checked_add.ensures) in
    ap (λ r. bit_and n (2 ^ 64 - 1 - r) * g.row.SLLEN) rest
    ∙ ap (λ m. bit_and m (2 ^ 64 - 1 - (2 ^ (k - i) - 1)) * g.row.SLLEN) sum
    ∙ ap (λ m. m * g.row.SLLEN) (rounded-fits i k (omega arith) c.args.size fits)
    ∙ class_start-rounded g.row.SLLEN i c.args.size k is.power row.power_le row.next_power_gt
