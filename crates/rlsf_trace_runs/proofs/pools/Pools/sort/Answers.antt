use Rattle.std.proofs.Common.{arith}
use Rattle.rlsf_trace_runs.proofs.ApartPools.{ArePoolsApart-permutation, IsInOrder-ascending}
use Rattle.rlsf_trace_runs.proofs.pools.Pools.sort.Goals as goal

pub returns-clause-in_order : goal.returns-clause-in_order
returns-clause-in_order c =
    IsInOrder-ascending (ArePoolsApart-permutation c.requires c.sort_from.ensures.permutation) (λ i j d lower below. c.sort_from.ensures.in_order i j d (omega arith) lower below)
