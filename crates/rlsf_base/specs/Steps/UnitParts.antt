-- What payloads of complete units consist of: where the units are, the units, and the ticket.
use Rattle.std.specs.Prelude.{◌≡◌, ℕ, ◌+◌, ◌*◌}
use denote.RawPtr.{◌+ₚ◌}
use Rattle.rlsf_base.specs.OpenSpace.{Home, place_in}
use Rattle.rlsf_base.specs.declared.memory.block.Units.{Units}
use Rattle.rlsf_base.specs.declared.memory.ledger.Ticket.{Ticket}
use Rattle.rlsf_base.specs.declared.memory.unit_payload.Spot.{Spot}

-- where the units behind the first bytes of a payload of len bytes are, with the length of the complete payload
abbrev pub IsSpotAt : Units → ℕ → Spot → Type 0
IsSpotAt units len spot = (spot.ptr ≡ units.at +ₚ units.first * 16) × (spot.len ≡ len)

-- the units behind the first `kept` of the len bytes at an address
abbrev pub AreUnitsAt : Home → ℕ → ℕ → ℕ → Units → Type 0
AreUnitsAt home start len kept units =
    (units.at ≡ home.view.base.ptr) × (units.first * 16 ≡ place_in home.view start + kept) × (units.count * 16 + kept ≡ len)

-- the ticket of a name and a key for the len bytes at an address, of the alignment 16
abbrev pub IsTicketFor : ℕ → ℕ → ℕ → ℕ → Ticket → Type 0
IsTicketFor name key start len ticket = (ticket.name ≡ name) × (ticket.key ≡ key) × (ticket.addr ≡ start) × (ticket.len ≡ len) × (ticket.align ≡ 16)
