-- Payloads by their address alone, as a caller that holds a pointer has them.
use Rattle.std.specs.Prelude.{ℕ, zero, suc, List, []}
use base.Fml.{Fml, ftrue}
pub use Rattle.rlsf_base.specs.Addr.{reply_of}
use Rattle.rlsf_heap.specs.Heap.{Identity, PayloadView}
use Rattle.rlsf_heap.specs.Raw.{payload_owns}

-- what the owner of a payload at an address owns; at the address 0, which says that there is no payload, nothing
abbrev pub owns_at : ℕ → PayloadView → Fml
owns_at zero p = ftrue
owns_at (suc n) p = payload_owns p

-- what the owner of a payload owns, its bytes and its ticket, or nothing if its address is 0
abbrev pub owns_reply : PayloadView → Fml
owns_reply p = owns_at p.start p

-- a payload of a heap at an address, of which all bytes are here, with these values
abbrev pub written_payload : Identity → ℕ → List ℕ → ℕ → PayloadView
written_payload h addr bytes align = record { identity = h; start = addr; align = align; bytes = bytes; out = [] }

-- what the owner of such a payload owns, or nothing if the address is 0
abbrev pub owns_bytes : Identity → ℕ → List ℕ → ℕ → Fml
owns_bytes h addr bytes align = owns_reply (written_payload h addr bytes align)
