use Rattle.std.proofs.Common.{arith}
use Rattle.rlsf_global.proofs.ToldLayouts.{log_small, told-log}
use Rattle.rlsf_global.proofs.rows.layout_of.Goals as goal

pub overflow_shl-align : goal.overflow_shl-align
overflow_shl-align c =
    let told = c.requires in
    let log = told-log c.args.code c.args.usable told.0 told.1 in let small = log_small told.0 in
    omega (arith, log, small)
