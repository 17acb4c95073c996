use Rattle.std.proofs.Common.{sym, subst}
use Rattle.rlsf_pool_calls.specs.Calls.{PoolAllocatesZeroed}
use Rattle.rlsf_pool_calls.specs.Seen.{seen, seen_in}
use Rattle.rlsf_pool_calls.proofs.Rewritten.{nothing_zeroed}
use Rattle.rlsf_pool_calls.proofs.pool.Pool.allocate_zeroed.Goals as goal

pub returns-in-Refused : goal.returns-in-Refused
returns-in-Refused c =
    subst (λ p. PoolAllocatesZeroed (seen p) c.args.size c.args.align c.allocate_nothing.result (seen p)) (sym c.in-Refused.is)
    (nothing_zeroed c.args.size c.args.align c.allocate_nothing.result c.allocate_nothing.ensures)

pub returns-in-Small : goal.returns-in-Small
returns-in-Small c =
    subst (λ p. PoolAllocatesZeroed (seen p) c.args.size c.args.align c.allocate_zeroed.result (seen_in 16 c.allocate_zeroed.new.heap))
    (sym c.in-Small.is) c.allocate_zeroed.ensures

pub returns-in-Large : goal.returns-in-Large
returns-in-Large c =
    subst (λ p. PoolAllocatesZeroed (seen p) c.args.size c.args.align c.allocate_zeroed-in-Large.result (seen_in 64 c.allocate_zeroed-in-Large.new.heap)) (sym c.in-Large.is)
    c.allocate_zeroed-in-Large.ensures
