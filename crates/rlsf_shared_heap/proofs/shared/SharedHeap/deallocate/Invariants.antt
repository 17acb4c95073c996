use Rattle.rlsf_shared_heap.proofs.shared.SharedHeap.deallocate.Given as goal

abbrev pub ghosts-deallocate : goal.ghosts-deallocate
ghosts-deallocate g a = record { name = a.lock.now }
