use Rattle.std.proofs.Common.{refl}
use Rattle.rlsf_shared_heap.proofs.shared.SharedHeap.allocate_zeroed.Goals as goal

pub allocate_zeroed-requires : goal.allocate_zeroed-requires
allocate_zeroed-requires g c = refl

pub returns : goal.returns
returns g c =
    let did = c.allocate_zeroed.ensures in
    rw (← c.self.view_is) (record {
      payload = did.payload;
      written = did.written;
      zeros = did.zeros;
      align = did.align;
      aligned = did.aligned;
      sized = did.sized;
      few = did.few;
    })
