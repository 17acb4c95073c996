-- One of the blocks is used if and only if one of the blocks that are left is used.
use Rattle.std.proofs.Common.{◌≡◌}
use Rattle.rlsf_tlsf.specs.Steps.UsedBlocks.{has_used}
use Rattle.rlsf_heap.proofs.pools.any_used.Given as goal

abbrev pub invariant-loop-block : goal.invariant-loop-block
invariant-loop-block l = goal.iterator-loop-block.can_next l.blocks × goal.iterator-loop-block.is_finite l.blocks × (has_used l.blocks ≡ has_used l.initial.blocks)
