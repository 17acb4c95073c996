-- Each slot's payload is one of the heap.
use Rattle.rlsf_test_heap.specs.Slots.{AreSlotsOf}
use Rattle.rlsf_test_heap.proofs.rows.first_wrong.Given as goal

abbrev pub invariant-loop-index : goal.invariant-loop-index
invariant-loop-index l = AreSlotsOf l.heap.identity l.slots
