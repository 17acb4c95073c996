-- Each slot's payload is one of the shared heap.
use Rattle.rlsf_heap.specs.Heap.{AreOf}
use Rattle.rlsf_bench_threads.proofs.shared_steps.run.Given as goal

abbrev pub invariant-loop : goal.invariant-loop
invariant-loop g l = AreOf l.shared.identity l.live.items
