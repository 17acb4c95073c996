use Rattle.rlsf_local_heap.proofs.unit_heap.HeapUnitHeap.give.Goals as goal

pub returns : goal.returns
returns g c = let did = c.deallocate_units.ensures in λ i. record { heap = did.frame.heap.identity i; chunks = did.frame.chunks i }
