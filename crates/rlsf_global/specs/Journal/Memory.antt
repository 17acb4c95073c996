-- What a placement call leaves of the memory, beside the heap.
use Rattle.std.specs.Prelude.{◌≡◌, ◌+◌, ◌≤◌, length, min}
use Rattle.rlsf_base.specs.Addr.{at}
use Rattle.rlsf_base.specs.Space.{Space}
use Rattle.rlsf_global.specs.Locked.{LockedContents, flex_of}
use Rattle.rlsf_global.specs.Memory.{KeepsMemory}
use Rattle.rlsf_global.specs.declared.entry.Call.{Call}
use Rattle.rlsf_global.specs.declared.entry.Call.TheVariants.{Allocate, Deallocate, Reallocate}
use Rattle.rlsf_global.specs.declared.entry.Reply.{Reply}
use Rattle.rlsf_global.specs.declared.entry.Reply.TheVariants.{Placed, Freed, NoRoom}
use Rattle.rlsf_model.specs.Allocate.{HasRoomFor}
use Rattle.rlsf_model_global.specs.Heap.{Heap, content_at}

-- the word accesses of a call are bounded: always for a deallocation, else if there is room for the layout
abbrev pub IsBounded : Heap → Call → Space → Space → Type 0
IsBounded h (Allocate layout) before after = HasRoomFor 64 h.flex.machine layout.size layout.align → after.touches ≤ before.touches + 27
IsBounded h (Deallocate addr) before after = after.touches ≤ before.touches + 32
IsBounded h (Reallocate addr layout) before after = HasRoomFor 64 h.flex.machine layout.size layout.align → after.touches ≤ before.touches + 59

-- a payload that moves is copied: as many bytes as both sizes have. No other call copies a byte
abbrev pub Copies : Heap → Call → Reply → Space → Space → Type 0
Copies h (Reallocate addr layout) (Placed to) before after = after.copied ≡ before.copied + min layout.size (length (content_at h (at addr)))
Copies h call reply before after = after.copied ≡ before.copied

-- what holds if the allocator was asked nothing
abbrev pub IfUntried : Reply → Type 0 → Type 0
IfUntried (Placed to) holds = Unit {0}
IfUntried Freed holds = Unit {0}
IfUntried NoRoom holds = Unit {0}
IfUntried reply holds = holds

-- The memory is where it was. Each byte that no block is made of, before and after, is as it was, and so is each byte that the source
-- hasn't provided. Work and copies are bounded, and a call that asks the allocator nothing leaves the memory as it was.
pub record LeavesMemory (call : Call) (reply : Reply) (before after : LockedContents) : Type 0 where
  pub memory : KeepsMemory (flex_of before) (flex_of after)
  pub touches : IsBounded before.heap call before.memory after.memory
  pub grow : before.memory.touches ≤ after.memory.touches
  pub copied : Copies before.heap call reply before.memory after.memory
  pub untried : IfUntried reply (after.memory ≡ before.memory)
