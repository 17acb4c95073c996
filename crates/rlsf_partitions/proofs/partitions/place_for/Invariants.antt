use Rattle.rlsf_partitions.proofs.Lists.{NoneBefore}
use Rattle.rlsf_partitions.proofs.partitions.place_for.Given as goal

abbrev pub invariant-loop-place : goal.invariant-loop-place
invariant-loop-place l = NoneBefore l.partitions l.size l.place
