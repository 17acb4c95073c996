use Rattle.rlsf_shared_heap.proofs.Collected.{none}
use Rattle.rlsf_shared_heap.proofs.shared.owner.OwnerHeap.collect.Goals as goal

pub returns-then-self-eq0-clause-collected : goal.returns-then-self-eq0-clause-collected
returns-then-self-eq0-clause-collected g c = rw (← c.self.view_is) (none _ _ _)
