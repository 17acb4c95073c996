use Rattle.rlsf_shared_heap.proofs.shared.lock.Lock.new.Given as goal

abbrev pub ghosts-lock_named : goal.ghosts-lock_named
ghosts-lock_named g a = record { name = g.T.Identified.identity a.value }
