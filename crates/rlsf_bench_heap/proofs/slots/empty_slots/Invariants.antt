-- Slots without a payload have one of any heap.
use Rattle.std.specs.Prelude.{◌≡◌, length}
use Rattle.rlsf_heap.specs.Heap.{AreOf, Identity}
use Rattle.rlsf_bench_heap.proofs.slots.empty_slots.Given as goal

abbrev pub invariant-loop : goal.invariant-loop
invariant-loop l = record {
  none : (heap : Identity) → AreOf heap l.empty.items;
  count : length l.empty.items ≡ l.counter;
}
