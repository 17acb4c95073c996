use Rattle.std.proofs.Common.{rules, sym, subst}
use Rattle.rlsf_pool_calls.specs.Calls.{PoolFrees}
use Rattle.rlsf_pool_calls.specs.Seen.{nothing, seen}
use Rattle.rlsf_pool_calls.proofs.Outcomes.{none_freed, none_in_empty}
use Rattle.rlsf_pool_calls.proofs.pool.Pool.free.Goals as goal

pub returns-in-Refused : goal.returns-in-Refused
returns-in-Refused c =
    subst (λ p. PoolFrees (seen p) c.args.addr c.number.result (seen p)) (sym c.in-Refused.is)
    (subst (λ r. PoolFrees nothing c.args.addr r nothing) (sym c.number.ensures) (none_freed nothing c.args.addr (none_in_empty c.args.addr)))

pub returns-in-Small : goal.returns-in-Small
returns-in-Small c = search rules
