use Rattle.std.proofs.Common.{◌≡◌, Some, map, sym, subst}
use Rattle.rlsf_partitions.specs.Partitions.{partition_for, quota_of}
use Rattle.rlsf_partitions.proofs.Lists.{taken_placed}
use Rattle.rlsf_partitions.proofs.partitions.take_for.Goals as goal

pub returns-clause-result : goal.returns-clause-result
returns-clause-result c =
    taken_placed c.in_ok-payload.ensures.taken c.args.size
    (subst (λ ps. partition_for (map quota_of ps) c.args.size ≡ Some c.in_ok-pool.pool) c.deref.ensures.value (sym c.in_ok-pool.ensures.place))
