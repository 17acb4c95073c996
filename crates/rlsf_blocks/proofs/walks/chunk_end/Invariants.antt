use Rattle.std.proofs.Common.{◌≡◌, ℕ, ◌-◌, ◌^◌}
use Rattle.rlsf_base.specs.declared.memory.range.Range.{Range}
use Rattle.rlsf_base.specs.Space.{word_at}
use Rattle.rlsf_model.specs.Lists.{IsIn}
use Rattle.rlsf_model.specs.State.{State}
use Rattle.rlsf_table.specs.Table.{Table}
use Rattle.rlsf_blocks.specs.StandsFor.{contents, StandsFor}
use Rattle.rlsf_blocks.proofs.Walking.ChunkEnds.{IsInChunk}
use Rattle.rlsf_blocks.proofs.walks.chunk_end.Given as goal

abbrev pub invariant-loop-word : goal.invariant-loop-word
invariant-loop-word l =
    (l.word ≡ word_at l.memory l.block)
    × ((fllen sllen : ℕ) (t : Table) (s : State) (c : Range) → StandsFor fllen sllen (contents l.memory t) s → IsIn c s.chunks → c.start ≡ l.fn.start
    → IsInChunk s c l.block)

abbrev pub decreases-loop-word : goal.decreases-loop-word
decreases-loop-word l = 2 ^ 64 - l.block
