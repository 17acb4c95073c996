use Rattle.std.proofs.Common.{◌-◌, ◌≤◌, ◌++◌, replicate, take, drop}
use Rattle.rlsf_base.specs.Changes.{AreBytesHere, IsOwn}
use Rattle.rlsf_base.specs.Steps.Owners.{Gets}
use Rattle.rlsf_base.proofs.memory.filling.fill_bytes_from.Given as goal

abbrev pub invariant-loop-index : goal.invariant-loop-index
invariant-loop-index l =
    (l.from ≤ l.index) × (l.index ≤ l.len)
    × Gets l.fn.bytes l.bytes (take l.from l.fn.bytes.bytes ++ (replicate (l.index - l.from) l.fn.value ++ drop l.index l.fn.bytes.bytes))
    × AreBytesHere l.bytes.out 0 l.index × IsOwn l.bytes.out 0 l.len

abbrev pub decreases-loop-index : goal.decreases-loop-index
decreases-loop-index l = l.len - l.index
