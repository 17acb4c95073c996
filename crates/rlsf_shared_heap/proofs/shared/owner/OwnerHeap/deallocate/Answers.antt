use Rattle.std.proofs.Common.{refl}
use Rattle.rlsf_shared_heap.proofs.shared.owner.OwnerHeap.deallocate.Goals as goal

pub returns : goal.returns
returns g c =
    let did = c.deallocate_written.ensures in
    rw (← c.self.view_is) (record {
      step = did.step;
      result = did.result;
      bounds = did.bounds;
      frame = did.frame;
      owner = record { lent = refl; room = refl; touches = did.touches };
    })
