use Rattle.rlsf_shared_heap.proofs.shared.SharedHeap.reallocate.Given as goal

abbrev pub ghosts-reallocate : goal.ghosts-reallocate
ghosts-reallocate g a = record { name = a.lock.now }
