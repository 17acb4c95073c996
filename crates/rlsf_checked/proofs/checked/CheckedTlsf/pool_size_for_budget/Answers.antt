use Rattle.rlsf_checked.proofs.checked.CheckedTlsf.pool_size_for_budget.Goals as goal

pub returns-clause-length : goal.returns-clause-length
returns-clause-length g c = λ valid. c.pool_size_for_budget.ensures
