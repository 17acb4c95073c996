use Rattle.std.proofs.Common.{arith, sym, true≢false, ◌∙◌}
use Rattle.rlsf_test_heap.proofs.OneChunk.{next_of_chunk}
use Rattle.rlsf_test_heap.proofs.rows.appended.Goals as goal

pub append_free_block_ptr-taken-requires : goal.append_free_block_ptr-taken-requires
append_free_block_ptr-taken-requires c =
    let h = c.allocate-first.new.self in
    let place = c.allocate-first.ensures.frame.heap.place in (
      omega arith,
      (
        next_of_chunk h.state (c.allocate-first.ensures.frame.chunks ∙ c.requires.chunk) h.memory c.args.len (place.0 ∙ c.requires.place.0)
            (place.1 ∙ c.requires.place.1) c.requires.len,
        λ lent. absurd (true≢false (sym lent ∙ (c.allocate-first.ensures.frame.heap.lent ∙ c.requires.own))),
      ),
    )
