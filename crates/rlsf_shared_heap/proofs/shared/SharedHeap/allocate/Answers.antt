use Rattle.std.proofs.Common.{refl}
use Rattle.rlsf_shared_heap.proofs.shared.SharedHeap.allocate.Goals as goal

pub allocate-requires : goal.allocate-requires
allocate-requires g c = refl

pub returns : goal.returns
returns g c =
    let did = c.allocate.ensures in
    rw (← c.self.view_is) (record { payload = did.payload; align = did.align; aligned = did.aligned; sized = did.sized; few = did.few })
