use Rattle.std.proofs.Common.{sym, subst}
use Rattle.rlsf_pool_calls.specs.Calls.{PoolResizes}
use Rattle.rlsf_pool_calls.specs.Seen.{nothing, seen}
use Rattle.rlsf_pool_calls.proofs.Outcomes.{none_resized, none_in_empty}
use Rattle.rlsf_pool_calls.proofs.pool.Pool.realloc.Goals as goal

pub returns-in-Refused : goal.returns-in-Refused
returns-in-Refused c =
    subst (λ p. PoolResizes (seen p) c.args.addr c.args.size c.refused.result (seen p)) (sym c.in-Refused.is)
    (subst (λ r. PoolResizes nothing c.args.addr c.args.size r nothing) (sym c.refused.ensures) (none_resized nothing c.args.addr c.args.size (none_in_empty c.args.addr)))
