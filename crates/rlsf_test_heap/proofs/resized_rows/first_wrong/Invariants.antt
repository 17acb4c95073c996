-- Each slot's payload is one of the heap, with all its bytes here, and no byte of the memory is raw.
use Rattle.std.proofs.Common.{◌≡◌, length}
use Rattle.rlsf_heap.specs.Settled.{IsSettled}
use Rattle.rlsf_test_heap.specs.Slots.{AreWrittenOf}
use Rattle.rlsf_test_heap.proofs.resized_rows.first_wrong.Given as goal

abbrev pub invariant-loop-index : goal.invariant-loop-index
invariant-loop-index l = AreWrittenOf l.heap.identity l.slots × IsSettled l.heap.memory × (length l.slots ≡ length l.fn.slots)
