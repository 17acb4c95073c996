-- Payloads of complete units that left a memory, by a pointer, with their ticket. Their first bytes may stay with their owner.
use Rattle.std.specs.Prelude.{◌≡◌, ℕ, ◌-◌, ◌/◌, ◌%◌, ◌≤◌}
use base.Fml.{Fml, fsep}
use denote.RawPtr.{Ptr, room_for, ◌+ₚ◌}
use Rattle.rlsf_base.specs.declared.memory.view.View.{View}
use Rattle.rlsf_base.specs.Ledger.{extent, ticket_owns}
use Rattle.rlsf_base.specs.OpenSpace.{Home, place_in}
use Rattle.rlsf_base.specs.Range.{LiesIn, range_at}
use Rattle.rlsf_base.specs.Steps.Ownership.{units_ty}

-- the pointer to the byte at an address
abbrev pub pointer_to : View → ℕ → Ptr
pointer_to v addr = v.base.ptr +ₚ place_in v addr

-- a pointer to the units of so many bytes at an address of a memory, whose block is aligned to 16
pub record IsUnitPointer (home : Home) (ptr : Ptr) (start len : ℕ) : Type 0 where
  pub at : ptr ≡ pointer_to home.view start
  pub lies : LiesIn (range_at start len) home.start home.len
  pub grid : home.view.shift % 16 ≡ 0
  pub aligned : (start % 16 ≡ 0) × (len % 16 ≡ 0)

-- so many bytes can be the first ones of a payload of len bytes that stay with their owner: they are complete units
abbrev pub AreCompleteUnits : ℕ → ℕ → Type 0
AreCompleteUnits kept len = (kept ≤ len) × (kept % 16 ≡ 0)

-- the ticket for so many bytes at an address, of the alignment 16, and room for the units behind the first ones at a pointer
abbrev pub unit_payload_owns : ℕ → ℕ → ℕ → Ptr → ℕ → ℕ → Fml
unit_payload_owns name key start ptr len kept = fsep (ticket_owns name key (extent start len 16)) (room_for (units_ty ((len - kept) / 16)) (ptr +ₚ kept))
