-- What the calls behind the lock ensure: a record for each of the clauses `result`, `refused`, `frame` and `touches`.
use Rattle.std.specs.Prelude.{◌≡◌, ◌≢◌, ℕ, ◌+◌, ◌≤◌, Bool, true, List, length, min, None, Some, Err, OnErr, OnOk}
use Rattle.std.specs.List.{splice}
use Rattle.rlsf_base.specs.declared.memory.layout.Layout.{Layout}
use Rattle.rlsf_global.specs.Journal.Replay.{BookContents}
use Rattle.rlsf_global.specs.Kept.{KeepsFirst}
use Rattle.rlsf_global.specs.LiveRows.{HasCodes, LiveRows}
use Rattle.rlsf_global.specs.Locked.{LockedContents, flex_of}
use Rattle.rlsf_global.specs.Memory.{CopiesOnResize, KeepsMemory}
use Rattle.rlsf_model_global.specs.declared.error.GlobalError.TheVariants.{TableMemory}
use Rattle.rlsf_model_global.specs.Heap.{HasLayout, Heap, content_at, layout_at}
use Rattle.rlsf_model_global.specs.Left.{in_both}
use Rattle.rlsf_model_global.specs.Steps.{Placed}

-- ---- the results

-- a payload was allocated at the address, for the layout
pub record HeapAllocated (before after : Heap) (layout : Layout) (addr : ℕ) : Type 0 where
  -- it is live, and the layout is its last one
  pub live : layout_at after addr ≡ Some layout
  -- it has at least the size in usable bytes
  pub sized : layout.size ≤ length (content_at after addr)
  -- no payload was live there before
  pub new : layout_at before addr ≡ None
  -- the other payloads have the layouts that they had
  pub layouts : (a : ℕ) → a ≢ addr → layout_at after a ≡ layout_at before a
  -- and the bytes
  pub contents : (a : ℕ) → a ≢ addr → content_at after a ≡ content_at before a

-- the payload at the address was deallocated
pub record HeapDeallocated (before after : Heap) (addr : ℕ) : Type 0 where
  -- no payload is live there
  pub gone : layout_at after addr ≡ None
  -- the other payloads have the layouts that they had
  pub layouts : (a : ℕ) → a ≢ addr → layout_at after a ≡ layout_at before a
  -- and the bytes
  pub contents : (a : ℕ) → a ≢ addr → content_at after a ≡ content_at before a

-- the payload at an address got another size, and is now at `to`, which may be the same address. `enabled` is the option `ENABLE_REALLOCATION`
pub record HeapReallocated (enabled : Bool) (before after : Heap) (addr : ℕ) (layout : Layout) (new_size to : ℕ) : Type 0 where
  -- it is live, with this size and its alignment
  pub live : HasLayout after to new_size layout.align
  -- if it moved, no payload was live where it is
  pub new : to ≢ addr → layout_at before to ≡ None
  -- and none is live where it was
  pub left : to ≢ addr → layout_at after addr ≡ None
  -- it begins with the bytes that it had, as many as both sizes have
  pub kept : KeepsFirst (min layout.size new_size) before addr after to
  -- with the option, also as many as were usable and are
  pub kept_usable : enabled ≡ true → KeepsFirst (in_both before after addr to) before addr after to
  -- the other payloads have the layouts that they had
  pub layouts : (a : ℕ) → a ≢ addr → a ≢ to → layout_at after a ≡ layout_at before a
  -- and the bytes
  pub contents : (a : ℕ) → a ≢ addr → a ≢ to → content_at after a ≡ content_at before a

-- the payload at an address was moved to `to`, for another layout
pub record HeapMoved (before after : Heap) (addr : ℕ) (layout : Layout) (to : ℕ) : Type 0 where
  -- it is live, and the layout is its last one
  pub live : layout_at after to ≡ Some layout
  -- if it has another address, no payload was live where it is
  pub new : to ≢ addr → layout_at before to ≡ None
  -- and none is live where it was
  pub left : to ≢ addr → layout_at after addr ≡ None
  -- it begins with the bytes that were usable, as many as the new size has
  pub kept : KeepsFirst (min layout.size (length (content_at before addr))) before addr after to
  -- the other payloads have the layouts that they had
  pub layouts : (a : ℕ) → a ≢ addr → a ≢ to → layout_at after a ≡ layout_at before a
  -- and the bytes
  pub contents : (a : ℕ) → a ≢ addr → a ≢ to → content_at after a ≡ content_at before a

-- the payload at an address got another size in place. `to` is the returned address
pub record HeapResized (before after : Heap) (addr : ℕ) (layout : Layout) (new_size to : ℕ) : Type 0 where
  -- the payload is where it was
  pub there : to ≡ addr
  -- it has this size and its alignment
  pub live : HasLayout after addr new_size layout.align
  -- it begins with the bytes that it had, as many as were usable and are
  pub kept : KeepsFirst (in_both before after addr to) before addr after to
  -- the other payloads have the layouts that they had
  pub layouts : (a : ℕ) → a ≢ addr → layout_at after a ≡ layout_at before a
  -- and the bytes
  pub contents : (a : ℕ) → a ≢ addr → content_at after a ≡ content_at before a

-- bytes of the payload at an address were overwritten, from an offset on
pub record HeapWritten (before after : Heap) (addr offset : ℕ) (bytes : List ℕ) : Type 0 where
  -- it has these bytes, and its other ones
  pub written : content_at after addr ≡ splice (content_at before addr) offset (offset + length bytes) bytes
  -- the other payloads have the bytes that they had
  pub contents : (a : ℕ) → a ≢ addr → content_at after a ≡ content_at before a

-- ---- a refusal

-- a refused call changes nothing but the number of word accesses
pub record IsLockedUnchanged (before after : LockedContents) : Type 0 where
  -- the heap
  pub same : after.heap ≡ before.heap
  -- each byte of the memory
  pub bytes : after.memory.bytes ≡ before.memory.bytes

-- A call that is refused before the allocator was asked changes neither heap nor memory. Nothing is said here of the class table, nor of the
-- room in the table of live addresses and the count of its codes.
pub record IsLockedUntouched (before after : LockedContents) : Type 0 where
  -- the heap
  pub same : after.heap ≡ before.heap
  -- the memory, with both counts
  pub memory : after.memory ≡ before.memory

-- ---- what a call keeps in every case

-- The count of the table of live addresses has the codes that are read or written, but not the zeros that an allocation writes to all codes when it
-- makes them, since the system refused them before.

-- Of an allocation: it lacks memory for the table only if there is no room for all codes, and else there is room for them afterwards.
abbrev pub ReservesCodes : Placed → LiveRows → LiveRows → Type 0
ReservesCodes (Err TableMemory) before after = HasCodes before → ⊥
ReservesCodes answer before after = HasCodes after

-- of a call that copies no byte
pub record KeepsLocked (before after : LockedContents) : Type 0 where
  -- place of the memory, and the bytes that belong to no block
  pub memory : KeepsMemory (flex_of before) (flex_of after)
  -- word accesses are only added
  pub grow : before.memory.touches ≤ after.memory.touches
  -- no byte is copied
  pub copied : after.memory.copied ≡ before.memory.copied
  -- few codes of the table are read or written
  pub looks : after.looks ≤ before.looks + 2
  -- and if there is room for all codes, it stays
  pub codes : HasCodes before.live → HasCodes after.live

-- of a call that writes bytes of a payload
pub record KeepsLockedWriting (before after : LockedContents) : Type 0 where
  -- all payloads have the layouts that they had
  pub layouts : layout_at after.heap ≡ layout_at before.heap
  -- place of the memory, and the bytes that belong to no block
  pub memory : KeepsMemory (flex_of before) (flex_of after)
  -- word accesses are only added
  pub grow : before.memory.touches ≤ after.memory.touches
  -- no byte is copied
  pub copied : after.memory.copied ≡ before.memory.copied
  -- one code of the table is read
  pub looks : after.looks ≤ before.looks + 1
  -- and if there is room for all codes, it stays
  pub codes : HasCodes before.live → HasCodes after.live

-- of a call that changes the size of the payload at an address
pub record KeepsLockedResizing (enabled : Bool) (addr size wanted : ℕ) (before after : LockedContents) : Type 0 where
  -- place of the memory, and the bytes that belong to no block
  pub memory : KeepsMemory (flex_of before) (flex_of after)
  -- word accesses are only added
  pub grow : before.memory.touches ≤ after.memory.touches
  -- copied bytes are only added, and how many are is bounded
  pub copied : CopiesOnResize enabled before.heap.flex.machine addr size wanted before.memory after.memory
  -- few codes of the table are read or written
  pub looks : after.looks ≤ before.looks + 3
  -- and if there is room for all codes, it stays
  pub codes : HasCodes before.live → HasCodes after.live

-- of a call that moves the payload at an address
pub record KeepsLockedMoving (addr size : ℕ) (answer : Placed) (before after : LockedContents) : Type 0 where
  -- place of the memory, and the bytes that belong to no block
  pub memory : KeepsMemory (flex_of before) (flex_of after)
  -- word accesses are only added
  pub grow : before.memory.touches ≤ after.memory.touches
  -- as many bytes are copied as were usable, and the new size has
  pub copied : OnOk answer (after.memory.copied ≡ before.memory.copied + min size (length (content_at before.heap addr)))
  -- none if the call is refused
  pub copied_none : OnErr answer (after.memory.copied ≡ before.memory.copied)
  -- few codes of the table are read or written
  pub looks : after.looks ≤ before.looks + 3
  -- and if there is room for all codes, it stays
  pub codes : HasCodes before.live → HasCodes after.live

-- of a call of a book that writes bytes of a payload
pub record KeepsBookWriting (before after : BookContents) : Type 0 where
  -- the journal
  pub journal : after.journal ≡ before.journal
  -- place of the memory, and the bytes that belong to no block
  pub memory : KeepsMemory (flex_of before.locked) (flex_of after.locked)
  -- word accesses are only added
  pub grow : before.locked.memory.touches ≤ after.locked.memory.touches
  -- no byte is copied
  pub copied : after.locked.memory.copied ≡ before.locked.memory.copied
