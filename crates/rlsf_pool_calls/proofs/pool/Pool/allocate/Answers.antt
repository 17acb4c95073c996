use Rattle.std.proofs.Common.{sym, subst}
use Rattle.rlsf_pool_calls.specs.Calls.{PoolAllocates}
use Rattle.rlsf_pool_calls.specs.Seen.{seen, seen_in}
use Rattle.rlsf_pool_calls.proofs.pool.Pool.allocate.Goals as goal

pub returns-in-Small : goal.returns-in-Small
returns-in-Small c = subst (λ p. PoolAllocates (seen p) c.args.size c.args.align c.allocate.result (seen_in 16 c.allocate.new.heap)) (sym c.in-Small.is) c.allocate.ensures

pub returns-in-Large : goal.returns-in-Large
returns-in-Large c =
    subst (λ p. PoolAllocates (seen p) c.args.size c.args.align c.allocate-in-Large.result (seen_in 64 c.allocate-in-Large.new.heap))
    (sym c.in-Large.is) c.allocate-in-Large.ensures
