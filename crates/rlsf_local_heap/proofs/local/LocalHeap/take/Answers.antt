use Rattle.std.proofs.Common.{arith, ap, ◌∙◌}
use Rattle.rlsf_local_heap.specs.Constants.{Constants}
use Rattle.rlsf_local_heap.proofs.local.LocalHeap.take.Goals as goal
use Rattle.rlsf_tlsf.proofs.Replied.{some_more}

pub returns-then-is_some : goal.returns-then-is_some
returns-then-is_some g c =
    some_more c.take-payload.result (λ p is. ((is.0.0 ∙ ap (λ (k : Constants). k.heap) c.in_ok-heap.ensures, is.0.1), is.1, is.2, omega arith)) c.take-payload.ensures.payload

pub returns-else-is_some : goal.returns-else-is_some
returns-else-is_some g c =
    some_more c.take-payload.result (λ p is. ((is.0.0 ∙ ap (λ (k : Constants). k.heap) c.in_ok-heap.ensures, is.0.1), is.1, is.2, omega arith)) c.take-payload.ensures.payload
