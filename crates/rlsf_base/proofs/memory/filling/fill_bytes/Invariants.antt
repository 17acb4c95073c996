use Rattle.std.proofs.Common.{◌-◌, ◌≤◌, ◌++◌, replicate, drop}
use Rattle.rlsf_base.specs.Changes.{AreBytesHere, IsOwn}
use Rattle.rlsf_base.specs.Steps.Owners.{Gets}
use Rattle.rlsf_base.proofs.memory.filling.fill_bytes.Given as goal

abbrev pub invariant-loop-index : goal.invariant-loop-index
invariant-loop-index l =
    (l.index ≤ l.len) × Gets l.fn.bytes l.bytes (replicate l.index l.fn.value ++ drop l.index l.fn.bytes.bytes) × AreBytesHere l.bytes.out 0 l.index
    × IsOwn l.bytes.out 0 l.len

abbrev pub decreases-loop-index : goal.decreases-loop-index
decreases-loop-index l = l.len - l.index
