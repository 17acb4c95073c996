use Rattle.std.proofs.Common.{arith, refl}
use Rattle.rlsf_shared_heap.proofs.Collected.{none, one}
use Rattle.rlsf_shared_heap.proofs.shared.owner.OwnerHeap.collect_one.Goals as goal

pub returns : goal.returns
returns g c =
    let did = c.deallocate_written.ensures in
    rw (← c.self.view_is) (record {
      collected = one g.row.FLLEN g.row.SLLEN c.self.inside.heap c.deallocate_written.new.self _ _ did.step did.result did.bounds did.frame did.touches;
      lent = omega arith;
      few = omega arith;
      room = refl;
    })

pub returns-then-self-eq0-clause-collected : goal.returns-then-self-eq0-clause-collected
returns-then-self-eq0-clause-collected g c = rw (← c.self.view_is) (none _ _ _)

pub returns-in_default-clause-collected : goal.returns-in_default-clause-collected
returns-in_default-clause-collected g c = rw (← c.self.view_is) (none _ _ _)
