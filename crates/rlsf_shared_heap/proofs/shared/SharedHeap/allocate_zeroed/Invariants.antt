use Rattle.rlsf_shared_heap.proofs.shared.SharedHeap.allocate_zeroed.Given as goal

abbrev pub ghosts-allocate_zeroed : goal.ghosts-allocate_zeroed
ghosts-allocate_zeroed g a = record { name = a.lock.now }
