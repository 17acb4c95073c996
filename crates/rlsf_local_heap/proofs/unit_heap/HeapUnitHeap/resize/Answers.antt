use Rattle.rlsf_local_heap.proofs.Outcomes.{stays_there}
use Rattle.rlsf_local_heap.proofs.unit_heap.HeapUnitHeap.resize.Goals as goal

pub returns-clause-constants : goal.returns-clause-constants
returns-clause-constants g c = let did = c.resize_units.ensures in λ i. record { heap = did.frame.heap.identity i; chunks = did.frame.chunks i }

pub returns-clause-payload : goal.returns-clause-payload
returns-clause-payload g c =
    let did = c.resize_units.ensures in stays_there c.args.self.now c.resize_units.new.self c.resize_units.result c.args.payload c.args.size c.requires.heap did.result did.refused
