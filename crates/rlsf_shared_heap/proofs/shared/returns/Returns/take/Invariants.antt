use Rattle.rlsf_shared_heap.proofs.shared.returns.Returns.take.Given as goal

abbrev pub ghosts-take : goal.ghosts-take
ghosts-take a = record { name = a.lock.now }
