-- The first block that begins there is the first one of those that are left.
use Rattle.std.proofs.Common.{◌≡◌, find, nat_le}
use Rattle.rlsf_checked.proofs.all_blocks.first_of.Given as goal

abbrev pub invariant-loop-block : goal.invariant-loop-block
invariant-loop-block l =
    goal.iterator-loop-block.can_next l.blocks × goal.iterator-loop-block.is_finite l.blocks
    × (find (λ b. nat_le l.from b.range.start) l.blocks ≡ find (λ b. nat_le l.from b.range.start) l.initial.blocks)
