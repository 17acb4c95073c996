use Rattle.rlsf_shared_heap.proofs.shared.heap_identity.named.Given as goal

abbrev pub ghost-new : goal.ghost-new
ghost-new g a = g.Name.Named.name
