use Rattle.std.proofs.Common.{ℕ, ◌*◌, ◌^◌, ◌<◌, ◌≤◌, arith}
use Rattle.std.proofs.Math.Nat.{pow-suc}
use Rattle.rlsf_base.proofs.Numbers.PowersOfTwo.{pow-between}
use Rattle.rlsf_base.proofs.SizeMaps.RowLengths.{IsPower-row_length}
use Rattle.rlsf_base.proofs.SizeMaps.Shifts.{parts_rounded_up, top_positive}
use Rattle.rlsf_base.proofs.classes.reaching_parts.Goals as goal

-- a size of 32 or more is in the row of that exponent or a later one
later : (size k : ℕ) → 32 ≤ size → size < 2 * 2 ^ k → 5 ≤ k
later size k least high = let double = pow-suc 2 k in pow-between size 5 k (omega arith) (omega arith)

pub overflow_sub-parts-2 : goal.overflow_sub-parts-2
overflow_sub-parts-2 g c =
    let is = IsPower-row_length g.row.SLLEN c.requires.parameters in
    let row = c.ilog2-row.ensures in
    top_positive g.row.SLLEN _ c.args.size c.ilog2-row.result is.power is.few row.power_le row.next_power_gt (omega arith)

pub returns : goal.returns
returns g c =
    let is = IsPower-row_length g.row.SLLEN c.requires.parameters in
    let row = c.ilog2-row.ensures in
    let rounded = parts_rounded_up g.row.SLLEN _ c.args.size c.ilog2-row.result is.power is.few row.power_le row.next_power_gt (omega arith) in
    record { row = (later c.args.size c.ilog2-row.result c.requires.size row.next_power_gt, row.bound, row.power_le, row.next_power_gt); parts = (rounded.reached, rounded.tight) }
