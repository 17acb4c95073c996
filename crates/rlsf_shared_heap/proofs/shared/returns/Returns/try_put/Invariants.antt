use Rattle.rlsf_shared_heap.proofs.shared.returns.Returns.try_put.Given as goal

abbrev pub ghosts-put : goal.ghosts-put
ghosts-put a = record { name = a.lock.now }
