-- The bytes so far are complete chunks, and each state whose words the memory has is followed.
use Rattle.std.proofs.Common.{◌≡◌, ◌-◌, ◌%◌, ◌≤◌}
use Rattle.rlsf_model.specs.ChunkRows.{IsRow}
use Rattle.rlsf_model.specs.State.{State, between}
use Rattle.rlsf_blocks.specs.Consistency.Layout.{HasInBandLayout}
use Rattle.rlsf_blocks.proofs.Consistency.Pieces.{SomeChunks}
use Rattle.rlsf_blocks.proofs.consistency_check.chunks.are_chunks.Given as goal

abbrev pub invariant-loop-chunk : goal.invariant-loop-chunk
invariant-loop-chunk g l = record {
  from : l.start ≤ l.chunk;
  to : l.chunk ≤ l.end;
  whole : l.chunk % 32 ≡ 0;
  chunks : SomeChunks g.row.FLLEN g.row.SLLEN l.pools l.memory l.table l.start l.chunk;
  passes : (s : State) → HasInBandLayout g.row.FLLEN g.row.SLLEN l.pools l.memory l.table (between l.start l.end) s → IsRow s (between l.chunk l.end);
}

abbrev pub decreases-loop-chunk : goal.decreases-loop-chunk
decreases-loop-chunk g l = l.end - l.chunk
