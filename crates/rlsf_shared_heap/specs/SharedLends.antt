-- A payload with a reference to its heap, after a `&mut` to its bytes ended.
use Rattle.std.specs.Prelude.{ℕ, List, []}
use Rattle.std.specs.Borrow.{Fml, MutBor, Array, Lends, u8}
use denote.RattleType.{RattleType}
use mir.Syntax.{named}
use Rattle.rlsf_heap.specs.Heap.{PayloadView}
use Rattle.rlsf_heap.specs.Lends.{rewritten}
use Rattle.rlsf_shared_heap.specs.contracts.shared.payload.SharedPayload as payload
use Rattle.rlsf_shared_heap.specs.declared.shared.payload.ThreadHeap as heap

-- the payload has the bytes that r ends with, and is otherwise unchanged
abbrev pub LendsShared : (H : RattleType) → heap.Ghosts H.Denot → MutBor PayloadView → MutBor (List ℕ) → Fml
LendsShared H g p r = Lends (payload.the_row (record { mir = named 1; lft = [] }) H g) (Array u8 0) p r (rewritten p.now)
