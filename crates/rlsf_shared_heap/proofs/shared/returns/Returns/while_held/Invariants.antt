use Rattle.rlsf_shared_heap.proofs.shared.returns.Returns.while_held.Given as goal

abbrev pub ghosts-while_held : goal.ghosts-while_held
ghosts-while_held g a = record { name = a.lock.now }
