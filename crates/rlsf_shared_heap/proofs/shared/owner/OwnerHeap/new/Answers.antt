use Rattle.std.proofs.Common.{arith, refl, sym}
use Rattle.rlsf_shared_heap.proofs.shared.owner.OwnerHeap.new.Goals as goal

pub invariant_of-result : goal.invariant_of-result
invariant_of-result g c = (sym c.requires, omega arith)

pub returns-clause-lent : goal.returns-clause-lent
returns-clause-lent g c = refl
