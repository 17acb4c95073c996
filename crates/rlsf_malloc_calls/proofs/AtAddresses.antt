-- What is known of the payload at an address that isn't 0.
use Rattle.std.proofs.Common.{◌≡◌, ◌≢◌, ℕ}
use Rattle.rlsf_heap.specs.Heap.{HeapView, IsWritten, PayloadView}
use Rattle.rlsf_malloc_calls.specs.Calls.{IsPayloadAt}

pub heap_of_payload : (v : HeapView) (addr : ℕ) (p : PayloadView) → IsPayloadAt v addr p → addr ≢ 0 → p.identity ≡ v.identity
heap_of_payload v addr p is some = is.heap some

pub payload_is_written : (v : HeapView) (addr : ℕ) (p : PayloadView) → IsPayloadAt v addr p → addr ≢ 0 → IsWritten p
payload_is_written v addr p is some = is.written some
