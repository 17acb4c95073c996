-- Payloads and blocks that have another size.
use Rattle.std.specs.Prelude.{◌≡◌, ℕ}
use Rattle.rlsf_base.specs.declared.memory.unit_payload.UnitPayload.{UnitPayload}
use Rattle.rlsf_heap.specs.Units.{identity_of}
use Rattle.rlsf_local_heap.specs.declared.buffer.Buffer.{Buffer}
use Rattle.rlsf_local_heap.specs.declared.buffer.Seats.{Seats}

-- the second payload is the first one, with so many bytes: it is of the same heap, at the same place, and the same bytes of it stay with their owner
abbrev pub IsAtSamePlace : UnitPayload → UnitPayload → ℕ → Type 0
IsAtSamePlace old new len =
    (identity_of new ≡ identity_of old) × (new.start ≡ old.start) × (new.ptr ≡ old.ptr) × (new.kept ≡ old.kept) × (new.len ≡ len)

-- the first places of a block, with its values, and its payload of so many bytes, of which so many stay with their owner
abbrev pub IsLentOf : {T : Type 0} → Buffer T → ℕ → ℕ → ℕ → Seats T → UnitPayload → Type 0
IsLentOf b cap len kept seats payload =
    (seats.ptr ≡ b.ptr) × (seats.len ≡ b.len) × (seats.cap ≡ cap) × (seats.items ≡ b.items)
    × (identity_of payload ≡ b.heap) × (payload.ptr ≡ b.ptr) × (payload.len ≡ len) × (payload.kept ≡ kept)

-- the second block is of the same heap and has the same values, as many as stated, and so many places
abbrev pub IsBufferResized : {T : Type 0} → Buffer T → ℕ → ℕ → Buffer T → Type 0
IsBufferResized old len cap new = (new.heap ≡ old.heap) × (new.len ≡ len) × (new.cap ≡ cap) × (new.items ≡ old.items)

-- it is also at the same place
abbrev pub StaysWith : {T : Type 0} → Buffer T → ℕ → ℕ → Buffer T → Type 0
StaysWith old len cap new = (new.ptr ≡ old.ptr) × (new.heap ≡ old.heap) × (new.len ≡ len) × (new.cap ≡ cap) × (new.items ≡ old.items)
