use Rattle.std.proofs.Common.{◌≡◌, ap, subst}
use Rattle.rlsf_base.specs.Addr.{reply}
use Rattle.rlsf_base.specs.declared.memory.range.Range.{Range}
use Rattle.rlsf_base.specs.Range.{range_at}
use Rattle.rlsf_model_sizes.specs.Sizes.{max_pool_size}
use Rattle.rlsf_heap.specs.Heap.{Steps}
use Rattle.rlsf_model.specs.Insert.{Inserts, aligned_part, cut, with_chunks}
use Rattle.rlsf_model.specs.State.{State}
use Rattle.rlsf_local_heap.proofs.unit_heap.over_all.Goals as goal

pub returns-clause-pool : goal.returns-clause-pool
unfolding Steps
returns-clause-pool g c =
    let taken = reply c.insert_free_block_ptr.result in let new = c.insert_free_block_ptr.new.self in
    let (step, stands) = c.insert_free_block_ptr.ensures.step in (
      (
        taken,
        subst (λ (from : State × Range). Inserts g.row.FLLEN from.0 from.1 taken new.state)
            (λ i. (c.new-heap.ensures.state i, range_at (c.start.ensures.value i) (c.len.ensures.value i))) step,
      ),
      stands,
    )

pub returns-clause-chunks : goal.returns-clause-chunks
unfolding Steps
returns-clause-chunks g c =
    let (step, stands) = c.insert_free_block_ptr.ensures.step in
    subst (λ (from : State × Range). c.insert_free_block_ptr.new.self.state.chunks ≡ (with_chunks (cut (max_pool_size g.row.FLLEN) (aligned_part from.1)) from.0).chunks)
    (λ i. (c.new-heap.ensures.state i, range_at (c.start.ensures.value i) (c.len.ensures.value i))) (ap (λ (s : State). s.chunks) step.after)
