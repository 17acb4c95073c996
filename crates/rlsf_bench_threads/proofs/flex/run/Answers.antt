use Rattle.std.proofs.Common.{subst, sym}
use Rattle.rlsf_bench_threads.proofs.SlotChanges.{AreSlotsLive-none}
use Rattle.rlsf_bench_threads.specs.Slots.{AreSlotsLive}
use Rattle.rlsf_bench_threads.proofs.flex.run.Goals as goal

pub loop-init : goal.loop-init
loop-init c = subst (AreSlotsLive c.new-flex.result.state.machine) (sym c.in_ok-slots.ensures) (AreSlotsLive-none c.new-flex.result.state.machine _)
