use Rattle.std.proofs.Common.{◌-◌}
use Rattle.rlsf_model.specs.ChunkRows.{IsRow}
use Rattle.rlsf_model.specs.Remove.{IsIdle}
use Rattle.rlsf_model.specs.State.{State, between}
use Rattle.rlsf_blocks.specs.Blocks.{walked}
use Rattle.rlsf_blocks.specs.StandsFor.{contents, StandsFor}
use Rattle.rlsf_blocks.specs.Steps.Walk.{IsSpan}
use Rattle.rlsf_blocks.proofs.Chunks.RemovedRows.{IsRemovedTo}
use Rattle.rlsf_blocks.proofs.removal.remove_chunks.Given as goal

abbrev pub invariant-loop-start : goal.invariant-loop-start
invariant-loop-start g l =
    (s : State) → StandsFor g.row.FLLEN g.row.SLLEN (contents l.fn.memory l.fn.table) s → IsRow s (walked l.fn.range) → IsIdle s (walked l.fn.range)
    → IsSpan (walked l.fn.range) l.initial.start l.end × IsRemovedTo g.row.FLLEN g.row.SLLEN l.fn.memory s (between l.initial.start l.end) l.memory l.table l.start

abbrev pub decreases-loop-start : goal.decreases-loop-start
decreases-loop-start g l = l.end - l.start
