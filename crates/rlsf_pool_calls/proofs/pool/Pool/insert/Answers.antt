use Rattle.std.proofs.Common.{Err, sym, subst}
use Rattle.rlsf_base.specs.Range.{range_at}
use Rattle.rlsf_checked.specs.declared.error.CheckedError.TheVariants.{OutsideMemory}
use Rattle.rlsf_pool_calls.specs.Calls.{PoolInserts}
use Rattle.rlsf_pool_calls.specs.Seen.{insert_result, nothing, seen}
use Rattle.rlsf_pool_calls.proofs.Outcomes.{none_inserted}
use Rattle.rlsf_pool_calls.proofs.pool.Pool.insert.Goals as goal

pub returns-in-Refused : goal.returns-in-Refused
returns-in-Refused c =
    let r = range_at c.args.start c.args.len in
    subst (λ p. PoolInserts (insert_result p r) (seen p) r c.refused.result (seen p)) (sym c.in-Refused.is)
    (subst (λ a. PoolInserts (Err OutsideMemory) nothing r a nothing) (sym c.refused.ensures) (none_inserted r))
