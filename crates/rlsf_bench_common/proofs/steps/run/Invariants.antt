use Rattle.std.specs.Int.NonZero.{non_zero_u16_get, non_zero_usize_get}
use Rattle.rlsf_bench_common.proofs.StepsDone.{IsUnderway}
use Rattle.rlsf_bench_common.proofs.steps.run.Given as goal

abbrev pub invariant-loop-number : goal.invariant-loop-number
invariant-loop-number g l =
    IsUnderway g.row.FLLEN g.row.SLLEN g.row.ALIGNS l.fn.pool (non_zero_usize_get l.fn.slots) (non_zero_u16_get l.fn.sizes) l.fn.mode l.tlsf
    l.live.items l.tally l.draws.state l.number
