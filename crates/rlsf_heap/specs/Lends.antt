-- A payload after a `&mut` to its bytes ended.
use Rattle.std.specs.Prelude.{◌≡◌, ℕ, List, length}
use Rattle.std.specs.Borrow.{Fml, MutBor, Array, Lends, u8}
use Rattle.rlsf_base.specs.Lends.{refilled}
use Rattle.rlsf_heap.specs.Heap.{IsWritten, PayloadView}
use Rattle.rlsf_heap.specs.contracts.payload.Payload as payload

-- a payload with the bytes w, which are cut to its length, or filled up from the old ones
unfoldable pub rewritten : PayloadView → List ℕ → PayloadView
rewritten p w = record { identity = p.identity; start = p.start; align = p.align; bytes = refilled p.bytes 0 (length p.bytes) w; out = p.out }

-- the payload has the bytes that r ends with, and is otherwise unchanged
abbrev pub LendsPayload : MutBor PayloadView → MutBor (List ℕ) → Fml
LendsPayload p r = Lends payload.the_row (Array u8 0) p r (rewritten p.now)

-- a payload after its bytes were written is otherwise as it was
pub record IsRewritten (was p : PayloadView) : Type 0 where
  -- it is as long
  pub long : length p.bytes ≡ length was.bytes
  -- all its bytes are here
  pub written : IsWritten p
  -- it is of the same heap
  pub identity : p.identity ≡ was.identity
  -- it is where it was
  pub start : p.start ≡ was.start
  -- it has the alignment that it had
  pub align : p.align ≡ was.align
