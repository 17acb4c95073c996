use Rattle.std.proofs.Common.{rules}
use Rattle.rlsf_blocks.proofs.Deallocate.TakenIfFree.{odd_from}
use Rattle.rlsf_blocks.proofs.Reallocate.Lengths.{end_free, end_used}
use Rattle.rlsf_blocks.proofs.reallocation.resize.free_length.Goals as goal

pub returns-then-is_free : goal.returns-then-is_free
returns-then-is_free c = record {
  length = λ fllen sllen t free list marked. end_free list marked c.load_at-size.ensures.word (c.is_free.ensures.0 c.if-is_free.true);
  counts = search rules;
}

pub returns-else-is_free : goal.returns-else-is_free
returns-else-is_free c = record {
  length = λ fllen sllen t free list marked. end_used list marked c.load_at-size.ensures.word (odd_from c.load_at-size.result c.is_free.ensures c.if-is_free.false);
  counts = search rules;
}
