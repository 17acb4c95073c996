use Rattle.std.proofs.Common.{refl}
use Rattle.rlsf_shared_heap.proofs.shared.SharedHeap.reallocate.Goals as goal

pub reallocate-requires : goal.reallocate-requires
reallocate-requires g c = record { lock = refl; own = rw (← c.self.view_is) at c.requires.own; written = c.requires.written }

pub returns : goal.returns
returns g c = rw (← c.self.view_is) c.reallocate.ensures
