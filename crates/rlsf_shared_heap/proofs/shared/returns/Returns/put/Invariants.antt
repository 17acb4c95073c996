-- The payload that is left is the heap's, and its bytes are here.
use Rattle.std.proofs.Common.{◌≡◌}
use Rattle.rlsf_heap.specs.Heap.{IsWritten}
use Rattle.rlsf_shared_heap.proofs.shared.returns.Returns.put.Given as goal

abbrev pub invariant-loop : goal.invariant-loop
invariant-loop g l =
    (goal.iterator-loop g).can_next l.iterator' × (goal.iterator-loop g).is_finite l.iterator' × (l.left.identity ≡ l.self.identity) × IsWritten l.left
