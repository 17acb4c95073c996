-- A payload that leaves the memory of its heap with a ticket, and one that comes back.
use Rattle.std.specs.Prelude.{◌≡◌, ℕ, ◌+◌, ◌<◌, true, List, [], ◌∷◌, ◌++◌, length}
use Rattle.rlsf_base.specs.declared.memory.range.Range.{Range}
use Rattle.rlsf_base.specs.Ledger.{Entry, entry_of, extent}
use Rattle.rlsf_base.specs.MemoryCalls.{CountsNothing, IsSpaceWith}
use Rattle.rlsf_base.specs.OpenSpace.{IsHere, home_of, out_with, out_without}
use Rattle.rlsf_base.specs.Out.{kept_at}
use Rattle.rlsf_base.specs.Space.{Space, bytes_in, out_at, with_bytes}
use Rattle.rlsf_heap.specs.Heap.{IsWritten, PayloadView, payload_range}
use Rattle.rlsf_heap.specs.Renewed.{IsRedeemed}

-- the bytes of a range left the memory as a payload, each as it was, and a ticket was issued for it; nothing else changed
pub record IsHandedOver (m n : Space) (r : Range) (wide ledger : ℕ) (es fs : List Entry) (p : PayloadView) : Type 0 where
  pub identity : p.identity ≡ record { home = home_of m; ledger = ledger }
  pub at : p.start ≡ r.start
  pub align : p.align ≡ wide
  pub values : p.bytes ≡ bytes_in m r
  pub long : length p.bytes ≡ r.len
  pub states : (k : ℕ) → k < r.len → kept_at p.out k ≡ out_at m (r.start + k)
  pub full : IsHere m r → IsWritten p
  pub memory : IsSpaceWith m n m.bytes (out_without m r)
  pub counts : CountsNothing m n
  pub entries : fs ≡ es ++ entry_of (extent r.start r.len wide) true ∷ []

-- the bytes of a payload came back into the memory with their values, and its ticket was redeemed; nothing else changed
pub record IsTakenBack (m n : Space) (es fs : List Entry) (p : PayloadView) : Type 0 where
  pub memory : IsSpaceWith m n (with_bytes m p.start p.bytes) (out_with m (payload_range p))
  pub long : length n.bytes ≡ length m.bytes
  pub counts : CountsNothing m n
  pub entries : IsRedeemed p es fs
