-- So many payloads were deallocated, and nothing else changed.
use Rattle.std.proofs.Common.{◌≡◌, ◌≤◌, ◌+◌, ◌-◌}
use Rattle.rlsf_shared_heap.specs.Owners.{IsCollected}
use Rattle.rlsf_shared_heap.proofs.shared.owner.OwnerHeap.collect_lent.Given as goal

abbrev pub invariant-loop-count : goal.invariant-loop-count
invariant-loop-count g l = record {
  collected : IsCollected g.row.FLLEN g.row.SLLEN l.fn.self.heap l.self.heap l.count;
  lent : l.fn.self.lent ≡ l.self.lent + l.count;
  few : l.count ≤ l.most;
  room : l.self.room ≡ l.fn.self.room;
}

abbrev pub decreases-loop-count : goal.decreases-loop-count
decreases-loop-count g l = l.most - l.count
