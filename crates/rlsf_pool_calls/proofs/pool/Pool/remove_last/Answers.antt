use Rattle.std.proofs.Common.{sym, subst}
use Rattle.rlsf_pool_calls.specs.Calls.{RemovesLast}
use Rattle.rlsf_pool_calls.specs.Seen.{seen}
use Rattle.rlsf_pool_calls.proofs.Rewritten.{none_removed}
use Rattle.rlsf_pool_calls.proofs.pool.Pool.remove_last.Goals as goal

pub returns-in-Refused : goal.returns-in-Refused
returns-in-Refused c = subst (λ p. RemovesLast (seen p) 0 (seen p)) (sym c.in-Refused.is) none_removed
