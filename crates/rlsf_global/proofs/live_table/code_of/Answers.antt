use Rattle.std.proofs.Common.{◌≡◌, ◌%◌, ◌∙◌, ap, sym, arith}
use Rattle.std.proofs.Math.Nat.{pow-suc}
use Rattle.rlsf_base.proofs.Numbers.PowersOfTwo.{floor_log2-unique}
use Rattle.rlsf_model_sizes.specs.PowerOfTwo.{floor_log2}
use Rattle.rlsf_global.proofs.live_table.code_of.Goals as goal

pub returns : goal.returns
returns c =
    let k = c.ilog2.result in
    let double = pow-suc 2 k in
    let size = c.size.ensures.value in let align = c.align.ensures.value in
    let low : c.size.result % 32 ≡ c.args.layout.size % 32 = ap (λ n. n % 32) size in
    let log : floor_log2 c.args.layout.align ≡ k = ap floor_log2 (sym align)
    ∙ floor_log2-unique c.align.result k c.ilog2.ensures.power_le (omega (arith, c.ilog2.ensures.next_power_gt, double)) in
    omega (arith, low, log)
