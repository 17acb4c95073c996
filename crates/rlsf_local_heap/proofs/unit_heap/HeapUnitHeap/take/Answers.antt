use Rattle.std.proofs.Common.{arith}
use Rattle.rlsf_local_heap.proofs.unit_heap.HeapUnitHeap.take.Goals as goal
use Rattle.rlsf_tlsf.proofs.Replied.{some_more}

pub returns : goal.returns
returns g c =
    let did = c.allocate_units.ensures in record {
      constants = λ i. record { heap = did.frame.heap.identity i; chunks = did.frame.chunks i };
      payload = some_more c.allocate_units.result (λ p is. (is.complete, is.long, omega arith)) did.result;
    }
