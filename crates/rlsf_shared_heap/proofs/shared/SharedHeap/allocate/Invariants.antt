use Rattle.rlsf_shared_heap.proofs.shared.SharedHeap.allocate.Given as goal

abbrev pub ghosts-allocate : goal.ghosts-allocate
ghosts-allocate g a = record { name = a.lock.now }
