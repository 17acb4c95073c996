use Rattle.std.proofs.Common.{◌^◌, ◌<◌, ◌≤◌, ◌+◌, arith, sym, ◌∙◌}
use Rattle.std.proofs.Math.Nat.{mul-le-mul_right}
use Rattle.std.proofs.Math.Pow.{pow_mono}
use Rattle.rlsf_base.proofs.SizeMaps.PoolSizes.{max_pool_size-some, max_pool_size-none}
use Rattle.rlsf_base.proofs.SizeMaps.RowLengths.{IsPower-row_length}
use Rattle.rlsf_base.proofs.SizeMaps.Unmapped.{unmapped-within, unmapped-invalid, unmapped-past}
use Rattle.rlsf_base.proofs.classes.map_ceil_and_unmap.Goals as goal

pub returns-in_err-least : goal.returns-in_err-least
returns-in_err-least g c =
    let is = IsPower-row_length g.row.SLLEN c.requires.parameters.power_of_two in
    c.from_residual.ensures ∙ unmapped-past g.row.FLLEN g.row.SLLEN c.args.size is.some (omega arith) c.in_err-least.ensures.past

pub returns-then-least-end : goal.returns-then-least-end
returns-then-least-end g c =
    let is = IsPower-row_length g.row.SLLEN c.requires.parameters.power_of_two in
    let n = c.in_ok-least.least in
    let end = max_pool_size-some g.row.FLLEN c.in-Some.end (sym c.in-Some.ensures) in
    let below : n < 2 ^ (5 + g.row.FLLEN) = omega (arith, end.1) in
    unmapped-within g.row.FLLEN g.row.SLLEN c.args.size is.some (omega arith) n c.in_ok-least.ensures.start (omega arith) below

pub returns-else-least-end : goal.returns-else-least-end
returns-else-least-end g c =
    let is = IsPower-row_length g.row.SLLEN c.requires.parameters.power_of_two in
    let n = c.in_ok-least.least in
    let end = max_pool_size-some g.row.FLLEN c.in-Some.end (sym c.in-Some.ensures) in
    let past : 2 ^ (5 + g.row.FLLEN) ≤ n = omega (arith, end.1) in
    unmapped-invalid g.row.FLLEN g.row.SLLEN c.args.size is.some (omega arith) (omega (arith, mul-le-mul_right g.row.SLLEN past, c.in_ok-least.ensures.start))

pub returns-in-None : goal.returns-in-None
returns-in-None g c =
    let is = IsPower-row_length g.row.SLLEN c.requires.parameters.power_of_two in
    let n = c.in_ok-least.least in
    let many : 64 ≤ 5 + g.row.FLLEN = max_pool_size-none g.row.FLLEN (sym c.in-None.ensures) in
    let order : 2 ^ 64 ≤ 2 ^ (5 + g.row.FLLEN) = pow_mono {i = 64} many in
    unmapped-within g.row.FLLEN g.row.SLLEN c.args.size is.some (omega arith) n c.in_ok-least.ensures.start (omega arith) (omega arith)
