-- Each slot's payload is live.
use Rattle.rlsf_bench_threads.specs.Slots.{AreSlotsLive}
use Rattle.rlsf_bench_threads.proofs.flex.run.Given as goal

abbrev pub invariant-loop : goal.invariant-loop
invariant-loop l = AreSlotsLive l.flex.state.machine l.slots.items
