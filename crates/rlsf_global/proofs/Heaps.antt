-- The value under the lock has a heap, so the heap's laws are laws of it.
use Rattle.rlsf_base.specs.Space.{range_of}
use Rattle.rlsf_global.specs.Locked.{LockedContents, LockedStands}
use Rattle.rlsf_model_global.specs.Standing.{IsHeap}

pub locked_heap : (v : LockedContents) → LockedStands v → IsHeap (range_of v.memory) v.heap
unfolding LockedStands
locked_heap v is = record { flex = is.flex.well_formed; owed = is.flex.owed; sorted = is.sorted; lists = is.lists }
