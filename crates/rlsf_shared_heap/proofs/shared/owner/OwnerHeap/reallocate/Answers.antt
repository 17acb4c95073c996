use Rattle.std.proofs.Common.{refl}
use Rattle.rlsf_shared_heap.proofs.shared.owner.OwnerHeap.reallocate.Goals as goal

pub returns : goal.returns
returns g c =
    let did = c.reallocate.ensures in
    rw (← c.self.view_is) (record {
      step = did.step;
      result = did.result;
      room = did.room;
      bounds = did.bounds;
      refused = did.refused;
      frame = did.frame;
      owner = record { lent = refl; room = refl; touches = did.touches };
    })
