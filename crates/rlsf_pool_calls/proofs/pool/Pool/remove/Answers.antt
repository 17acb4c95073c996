use Rattle.std.proofs.Common.{sym, subst}
use Rattle.rlsf_base.specs.Range.{range_at}
use Rattle.rlsf_pool_calls.specs.Calls.{RemovesRange}
use Rattle.rlsf_pool_calls.specs.Seen.{nothing, seen}
use Rattle.rlsf_pool_calls.proofs.Rewritten.{no_range_removed}
use Rattle.rlsf_pool_calls.proofs.pool.Pool.remove.Goals as goal

pub returns-in-Refused : goal.returns-in-Refused
returns-in-Refused c =
    let r = range_at c.args.start c.args.len in
    subst (λ p. RemovesRange (seen p) r c.number.result (seen p)) (sym c.in-Refused.is)
    (subst (λ n. RemovesRange nothing r n nothing) (sym c.number.ensures) (no_range_removed r))
