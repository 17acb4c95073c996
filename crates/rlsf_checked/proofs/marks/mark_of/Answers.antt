use Rattle.std.proofs.Common.{arith}
use Rattle.std.proofs.Math.Nat.{pow-suc}
use Rattle.rlsf_base.proofs.Numbers.PowersOfTwo.{floor_log2-unique}
use Rattle.rlsf_checked.proofs.marks.mark_of.Goals as goal

pub returns : goal.returns
returns c =
    omega (arith, floor_log2-unique c.args.align c.ilog2.result c.ilog2.ensures.power_le (omega (arith, c.ilog2.ensures.next_power_gt, pow-suc 2 c.ilog2.result)))
