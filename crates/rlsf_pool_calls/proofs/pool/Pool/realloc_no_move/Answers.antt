use Rattle.std.proofs.Common.{rules, sym, subst}
use Rattle.rlsf_pool_calls.specs.Calls.{PoolResizesThere}
use Rattle.rlsf_pool_calls.specs.Seen.{nothing, seen}
use Rattle.rlsf_pool_calls.proofs.Outcomes.{none_resized_there, none_in_empty}
use Rattle.rlsf_pool_calls.proofs.pool.Pool.realloc_no_move.Goals as goal

pub returns-in-Refused : goal.returns-in-Refused
returns-in-Refused c =
    subst (λ p. PoolResizesThere (seen p) c.args.addr c.args.size c.refused.result (seen p)) (sym c.in-Refused.is)
    (subst (λ r. PoolResizesThere nothing c.args.addr c.args.size r nothing) (sym c.refused.ensures)
    (none_resized_there nothing c.args.addr c.args.size (none_in_empty c.args.addr)))

pub returns-in-Small : goal.returns-in-Small
returns-in-Small c = search rules
