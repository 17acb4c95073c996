-- The bytes of the chunk so far are blocks, and each state whose words the memory has is followed.
use Rattle.std.proofs.Common.{◌≡◌, ◌+◌, ◌-◌, ◌%◌, ◌≤◌}
use Rattle.rlsf_base.specs.declared.memory.range.Range.{Range}
use Rattle.rlsf_base.specs.Range.{end_of}
use Rattle.rlsf_blocks.proofs.Walking.ChunkEnds.{IsInChunk}
use Rattle.rlsf_model.specs.Lists.{IsIn}
use Rattle.rlsf_model.specs.State.{State}
use Rattle.rlsf_blocks.specs.Consistency.Layout.{HasInBandLayout}
use Rattle.rlsf_blocks.proofs.Consistency.Pieces.{SomePart}
use Rattle.rlsf_blocks.proofs.consistency_check.chunks.checked_chunk_end.Given as goal

abbrev pub invariant-loop-block : goal.invariant-loop-block
invariant-loop-block g l = record {
  from : l.chunk ≤ l.block;
  to : l.block + 32 ≤ l.end;
  whole : l.block % 32 ≡ 0;
  part : SomePart g.row.FLLEN g.row.SLLEN l.pools l.memory l.table l.chunk l.block;
  passes : (s : State) (c r : Range)
      → HasInBandLayout g.row.FLLEN g.row.SLLEN l.pools l.memory l.table r s → IsIn c s.chunks → c.start ≡ l.chunk → end_of c ≤ l.end → IsInChunk s c l.block;
}

abbrev pub decreases-loop-block : goal.decreases-loop-block
decreases-loop-block g l = l.end - l.block
