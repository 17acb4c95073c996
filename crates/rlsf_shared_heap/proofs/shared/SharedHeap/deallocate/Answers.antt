use Rattle.std.proofs.Common.{refl}
use Rattle.rlsf_shared_heap.proofs.shared.SharedHeap.deallocate.Goals as goal

pub deallocate-requires : goal.deallocate-requires
deallocate-requires g c = record { lock = refl; payload = rw (← c.self.view_is) at c.requires }
