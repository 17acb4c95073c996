-- What was counted, and what is left to count.
use Rattle.rlsf_blocks.proofs.Walking.Totals.{IsCounted}
use Rattle.rlsf_blocks.proofs.totals.totals_of.Given as goal

abbrev pub invariant-loop-block : goal.invariant-loop-block
invariant-loop-block l = goal.iterator-loop-block.can_next l.blocks × goal.iterator-loop-block.is_finite l.blocks × IsCounted l.sum l.blocks l.initial.blocks
