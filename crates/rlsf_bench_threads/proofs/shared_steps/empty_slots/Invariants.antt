-- Slots without a payload have one of any heap.
use Rattle.rlsf_heap.specs.Heap.{AreOf, Identity}
use Rattle.rlsf_bench_threads.proofs.shared_steps.empty_slots.Given as goal

abbrev pub invariant-loop : goal.invariant-loop
invariant-loop l = (heap : Identity) → AreOf heap l.empty.items
