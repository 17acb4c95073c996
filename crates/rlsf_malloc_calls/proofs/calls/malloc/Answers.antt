use Rattle.rlsf_malloc_calls.proofs.calls.malloc.Goals as goal

pub returns : goal.returns
returns g c = c.allocate_for.ensures
