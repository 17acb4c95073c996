use Rattle.std.proofs.Common.{sym, subst, inl}
use Rattle.rlsf_pool_calls.specs.Calls.{PoolCopies}
use Rattle.rlsf_pool_calls.specs.Seen.{nothing, seen}
use Rattle.rlsf_pool_calls.proofs.Outcomes.{none_in_empty}
use Rattle.rlsf_pool_calls.proofs.Rewritten.{none_copied}
use Rattle.rlsf_pool_calls.proofs.pool.Pool.copy.Goals as goal

pub returns-in-Refused : goal.returns-in-Refused
returns-in-Refused c =
    subst (λ p. PoolCopies (seen p) c.args.from c.args.to c.args.len c.number.result (seen p)) (sym c.in-Refused.is)
    (subst (λ r. PoolCopies nothing c.args.from c.args.to c.args.len r nothing) (sym c.number.ensures)
    (none_copied nothing c.args.from c.args.to c.args.len (inl (none_in_empty c.args.from))))
