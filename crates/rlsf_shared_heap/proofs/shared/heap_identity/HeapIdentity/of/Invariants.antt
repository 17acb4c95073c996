use Rattle.rlsf_shared_heap.proofs.shared.heap_identity.HeapIdentity.of.Given as goal

abbrev pub ghosts-named : goal.ghosts-named
ghosts-named g a = record { name = g.T.Identified.identity a.heap.now }
