-- What the allocator ends as, once a `&mut` to a payload's bytes has ended.
use Rattle.std.specs.Prelude.{◌≡◌, ℕ, ◌+◌, List, length}
use Rattle.std.specs.Borrow.{Fml, RattleType, MutBor, Array, Lends, u8}
use Rattle.rlsf_base.specs.Lends.{lent_space}
use Rattle.rlsf_base.specs.Space.{Space, SamePlace}
use Rattle.rlsf_blocks.specs.Spare.{KeepsSpare}
use Rattle.rlsf_int.specs.declared.int.BitPattern.{Ghosts}
use Rattle.rlsf_tlsf.specs.Allocator.{Allocator, Stands, allocator}
use Rattle.rlsf_tlsf.specs.contracts.tlsf.Tlsf.{the_row}

-- a memory with so many more touches
abbrev pub touched : Space → ℕ → Space
touched m more = record m { touches = m.touches + more }

-- The allocator, with w in the place of the len bytes from the address on: w is cut to len, or filled up from the bytes that were
-- there. Three words are read that show where these bytes end
unfoldable pub written : Allocator → ℕ → ℕ → List ℕ → Allocator
written v addr len w = allocator (lent_space (touched v.memory 3) addr len w) v.table v.state

-- whatever was left there, chunks, the memory's place and spare bytes stay, the state is well-formed, three touches are counted and no copy
abbrev pub LeavesRest : ℕ → ℕ → Allocator → Allocator → Type 0
LeavesRest fllen sllen before after =
    (after.state.chunks ≡ before.state.chunks) × SamePlace before.memory after.memory × Stands fllen sllen after
    × (after.memory.touches ≡ before.memory.touches + 3) × (after.memory.copied ≡ before.memory.copied)
    × KeepsSpare before.memory before.state after.memory after.state

-- the allocator ends with what r leaves in the bytes from the address on, and else as it was
abbrev pub lends_payload : (FL SL FLLEN SLLEN : RattleType) → Ghosts FL.Denot → Ghosts SL.Denot → MutBor Allocator → ℕ → MutBor (List ℕ) → Fml
lends_payload FL SL FLLEN SLLEN fl sl v addr r = Lends (the_row FL SL FLLEN SLLEN fl sl) (Array u8 0) v r (written v.now addr (length r.now))
