-- What was listed of the blocks that were passed, and what is left of them.
use Rattle.std.proofs.Common.{◌≡◌, ◌/◌, length}
use Rattle.rlsf_blocks.proofs.Walking.Listing.{IsListed}
use Rattle.rlsf_blocks.proofs.listing.list.Given as goal

abbrev pub invariant-loop-block : goal.invariant-loop-block
invariant-loop-block l =
    goal.iterator-loop-block.can_next l.blocks × goal.iterator-loop-block.is_finite l.blocks × (l.room ≡ length l.initial.into / 3)
    × IsListed l.from l.initial.into l.into l.count l.blocks l.initial.blocks
