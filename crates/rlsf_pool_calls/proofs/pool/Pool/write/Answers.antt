use Rattle.std.proofs.Common.{sym, subst}
use Rattle.rlsf_pool_calls.specs.Calls.{PoolWrites}
use Rattle.rlsf_pool_calls.specs.Seen.{nothing, seen}
use Rattle.rlsf_pool_calls.proofs.Outcomes.{none_written, none_in_empty}
use Rattle.rlsf_pool_calls.proofs.pool.Pool.write.Goals as goal

pub returns-in-Refused : goal.returns-in-Refused
returns-in-Refused c =
    subst (λ p. PoolWrites (seen p) c.args.addr c.args.offset c.args.bytes.now c.number.result (seen p)) (sym c.in-Refused.is)
    (subst (λ r. PoolWrites nothing c.args.addr c.args.offset c.args.bytes.now r nothing) (sym c.number.ensures)
    (none_written nothing c.args.addr c.args.offset c.args.bytes.now (none_in_empty c.args.addr)))
