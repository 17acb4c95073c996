use Rattle.rlsf_base.specs.Space.{range_of}
use Rattle.rlsf_model.specs.Insert.{IsFresh}
use Rattle.rlsf_model.specs.State.{State}
use Rattle.rlsf_blocks.specs.StandsFor.{contents, StandsFor}
use Rattle.rlsf_blocks.proofs.Chunks.Pools.{IsFilled}
use Rattle.rlsf_blocks.proofs.pool.insert_chunks.Given as goal

abbrev pub invariant-loop-left : goal.invariant-loop-left
invariant-loop-left g l =
    (s : State) → StandsFor g.row.FLLEN g.row.SLLEN (contents l.fn.memory l.fn.table) s → IsFresh (range_of l.fn.memory) s l.fn.range
    → IsFilled g.row.FLLEN g.row.SLLEN l.fn.memory s l.fn.range l.memory l.table l.start l.left

abbrev pub decreases-loop-left : goal.decreases-loop-left
decreases-loop-left g l = l.left
