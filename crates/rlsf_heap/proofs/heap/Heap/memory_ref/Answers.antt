use Rattle.std.proofs.Common.{rules}
use Rattle.rlsf_heap.proofs.OnCores.{IsRepresented-view, Stands-represented}
use Rattle.rlsf_heap.proofs.heap.Heap.memory_ref.Goals as goal

pub returns : goal.returns
returns g c =
    let represented = IsRepresented-view c.self.invariant c.args.self.now c.self.view_is in
    record { memory = search rules; stands = Stands-represented _ _ c.args.self.now represented; represented = represented }
