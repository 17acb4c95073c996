use Rattle.rlsf_shared_heap.proofs.shared.SharedHeap.adopt.Goals as goal

pub new-requires : goal.new-requires
new-requires g c = record { own = c.requires.heap; written = c.requires.written }
