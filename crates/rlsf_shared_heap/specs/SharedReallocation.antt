-- What a reallocation of a shared heap returns.
use Rattle.std.specs.Prelude.{◌≡◌, ℕ, ◌+◌, ◌%◌, ◌<◌, ◌≤◌, length, min, IfErr, IfOk, MatchResult, Result}
use Rattle.rlsf_base.specs.Changes.{AreBytesHere}
use Rattle.rlsf_model.specs.Reallocate.{Keeps}
use Rattle.rlsf_heap.specs.Heap.{Identity, IsWritten, PayloadView}

-- a payload of this heap with the alignment that it had. One of the requested size begins with the bytes that were kept, which are here. The
-- error is the payload as it was
pub record IsReallocation (heap : Identity) (was : PayloadView) (size : ℕ) (reply : Result PayloadView PayloadView) : Type 0 where
  pub payload : MatchResult reply (λ p. p.identity ≡ heap) (λ p. p.identity ≡ heap)
  pub align : MatchResult reply (λ p. p.align ≡ was.align) (λ p. p.align ≡ was.align)
  pub aligned : IfOk reply (λ p. p.start % was.align ≡ 0)
  pub sized : IfOk reply (λ p. size ≤ length p.bytes)
  pub few : IfOk reply (λ p. length p.bytes < size + 32)
  pub kept : IfOk reply (λ p. Keeps was.bytes p.bytes)
  pub here : IfOk reply (λ p. AreBytesHere p.out 0 (min (length was.bytes) (length p.bytes)))
  pub shrunk : IfOk reply (λ p. length p.bytes ≤ length was.bytes → IsWritten p)
  pub back : IfErr reply (λ p. (p.start ≡ was.start) × (p.bytes ≡ was.bytes) × IsWritten p)
