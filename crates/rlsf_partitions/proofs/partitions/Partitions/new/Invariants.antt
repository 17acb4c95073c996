use Rattle.std.proofs.Common.{◌≡◌, map, take}
use Rattle.rlsf_partitions.specs.Partitions.{ArePossible, fresh, quota_of}
use Rattle.rlsf_partitions.proofs.partitions.Partitions.new.Given as goal

abbrev pub invariant-loop-index : goal.invariant-loop-index
invariant-loop-index l = (map quota_of l.partitions.items ≡ map fresh (take l.index l.sizes)) × ArePossible (take l.index l.sizes)
