-- The payload is one of the heap, with all its bytes here, and no byte of the memory is raw.
use Rattle.std.proofs.Common.{◌≡◌}
use Rattle.rlsf_heap.specs.Settled.{IsSettled}
use Rattle.rlsf_test_heap.specs.Slots.{IsHeld}
use Rattle.rlsf_test_heap.proofs.thin.first_wrong.Given as goal

abbrev pub invariant-loop-index : goal.invariant-loop-index
invariant-loop-index g l = IsHeld l.heap.identity l.held.0 l.held.1 l.held.2.of × (l.heap.identity ≡ l.fn.heap.identity) × IsSettled l.heap.memory
