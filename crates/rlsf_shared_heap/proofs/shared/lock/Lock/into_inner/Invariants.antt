use Rattle.rlsf_shared_heap.proofs.shared.lock.Lock.into_inner.Given as goal

abbrev pub ghosts-unlock_named : goal.ghosts-unlock_named
ghosts-unlock_named g a = record { name = a.lock }
