use Rattle.std.proofs.Common.{◌∙◌, ap}
use Rattle.rlsf_base.specs.Addr.{reply}
use Rattle.rlsf_model.specs.Insert.{bytes_taken}
use Rattle.rlsf_tlsf.proofs.Replied.{where_none}
use Rattle.rlsf_heap.specs.Heap.{Steps}
use Rattle.rlsf_heap.proofs.heap.Heap.insert_free_block.Goals as goal

pub returns-clause-step : goal.returns-clause-step
unfolding Steps
returns-clause-step g c =
    let (step, stands) = c.insert_free_block_ptr.ensures.step in
    ((reply c.insert_free_block_ptr.result, step), stands)

pub returns-clause-refused : goal.returns-clause-refused
unfolding Steps
returns-clause-refused g c = λ none.
    let e = c.insert_free_block_ptr.ensures in
    where_none _ c.insert_free_block_ptr.result (e.step.0.answer ∙ ap (bytes_taken c.args.range.start) none) e.refused

pub returns-clause-pool : goal.returns-clause-pool
returns-clause-pool g c = c.insert_free_block_ptr.ensures.pool.2
