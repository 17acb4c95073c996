-- What a reallocation of a heap returns, as the calls through a lock say it.
use Rattle.std.proofs.Common.{ℕ, Result, Ok, Err, IfErr, IfOk}
use Rattle.rlsf_heap.specs.Heap.{HeapView, PayloadView}
use Rattle.rlsf_heap.specs.Replies.{IsRefused, IsResizedOrMoved}
use Rattle.rlsf_shared_heap.specs.SharedReallocation.{IsReallocation}

-- a payload that has another size, or is as it was
pub reallocation_of : (old new : HeapView) (p : PayloadView) (size : ℕ) (reply : Result PayloadView PayloadView)
    → IfOk reply (λ q. IsResizedOrMoved old new p.start size p.align p q) → IfErr reply (λ q. IsRefused old new p.start p.align p q)
    → IsReallocation old.identity p size reply
reallocation_of old new p size (Ok q) is none = record {
  payload = is.resized.identity;
  align = is.resized.requested;
  aligned = is.resized.aligned;
  sized = is.resized.sized;
  few = is.resized.few;
  kept = is.resized.kept;
  here = is.resized.here;
  shrunk = is.resized.shrunk;
  back = tt;
}
reallocation_of old new p size (Err q) none is = record {
  payload = is.identity;
  align = is.requested;
  aligned = tt;
  sized = tt;
  few = tt;
  kept = tt;
  here = tt;
  shrunk = tt;
  back = (is.start, is.bytes, is.written);
}
