use Rattle.rlsf_base.proofs.memory.copying.copy_bytes.Given as goal

abbrev pub ghost-recount : goal.ghost-recount
ghost-recount g a = g.out
