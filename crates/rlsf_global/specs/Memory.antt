-- What a call behind the lock leaves of the memory, beside the heap.
use Rattle.std.specs.Prelude.{◌≡◌, ℕ, ◌+◌, ◌<◌, ◌≤◌, Bool, true, false, length, min, Result, Ok, Err}
use Rattle.rlsf_base.specs.Space.{SamePlace, Space, byte_at}
use Rattle.rlsf_blocks.specs.Spare.{KeepsSpare}
use Rattle.rlsf_flex.specs.Outside.{IsOutside}
use Rattle.rlsf_flex.specs.StandsFor.{FlexContents}
use Rattle.rlsf_model.specs.Allocate.{HasRoomFor}
use Rattle.rlsf_model.specs.Callers.{bytes_at}
use Rattle.rlsf_model.specs.Reallocate.{HasRoomToResize, HasRoomToStay}
use Rattle.rlsf_model.specs.State.{State}
use Rattle.rlsf_model_global.specs.declared.error.GlobalError.{GlobalError}
use Rattle.rlsf_model_global.specs.declared.error.GlobalError.TheVariants.{NoRoom}
use Rattle.rlsf_model_global.specs.Cursor.{PageCursor}

-- The memory is where it was. Each byte that no block is made of, before and after, is as it was, and so is each byte in no range that
-- the source has provided afterwards.
pub record KeepsMemory (before after : FlexContents PageCursor) : Type 0 where
  pub place : SamePlace before.memory after.memory
  pub spare : KeepsSpare before.memory before.state.machine after.memory after.state.machine
  pub outside : (a : ℕ) → before.memory.start ≤ a → a < before.memory.start + length before.memory.bytes → IsOutside after.state.pools a
      → byte_at after.memory a ≡ byte_at before.memory a

-- what holds if a call is refused before the allocator was asked
abbrev pub IfUnasked : {A : Type 0} → Result A GlobalError → Type 0 → Type 0
IfUnasked (Ok x) holds = Unit {0}
IfUnasked (Err NoRoom) holds = Unit {0}
IfUnasked (Err e) holds = holds

-- How many bytes are copied if a payload gets another size. With reallocation enabled: none if the payload has room to stay, and at most
-- its bytes if there is room. With reallocation disabled: at most the bytes that both sizes have.
pub record CopiesOnResize (enabled : Bool) (s : State) (addr size wanted : ℕ) (before after : Space) : Type 0 where
  pub grow : before.copied ≤ after.copied
  pub room : enabled ≡ true → HasRoomToResize 64 s addr wanted → after.copied ≤ before.copied + length (bytes_at s addr)
  pub stays : enabled ≡ true → HasRoomToStay s addr wanted → after.copied ≡ before.copied
  pub elsewhere : enabled ≡ false → after.copied ≤ before.copied + min size wanted

-- how many words are accessed if a payload of this alignment gets another size, where there is room
pub record BoundsOnResize (enabled : Bool) (s : State) (addr size align : ℕ) (before after : Space) : Type 0 where
  -- where the allocator reallocates
  pub room : enabled ≡ true → HasRoomToResize 64 s addr size → after.touches ≤ before.touches + 66
  -- where the payload always moves
  pub elsewhere : enabled ≡ false → HasRoomFor 64 s size align → after.touches ≤ before.touches + 59
