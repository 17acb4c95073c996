-- A payload that is resized, as callers see it.
use Rattle.std.specs.Prelude.{◌≡◌, ◌≢◌, ℕ, ◌+◌, ◌≤◌, ◌<◌, Bool, List, length, Option, Some, None, IfSome, IfNone, Ok}
use Rattle.std.specs.declared.num.NonZeroUsize.{NonZeroUsize}
use Rattle.rlsf_base.specs.declared.memory.layout.Layout.{Layout}
use Rattle.rlsf_flex.specs.StandsFor.{FlexContents, FlexStandsFor}
use Rattle.rlsf_global.specs.Locked.{heap_of}
use Rattle.rlsf_global.specs.Memory.{CopiesOnResize, KeepsMemory}
use Rattle.rlsf_model_global.specs.Pages.{MayOwe}
use Rattle.rlsf_model.specs.Callers.{align_at, bytes_at}
use Rattle.rlsf_model_global.specs.Cursor.{PageCursor, terms_of}
use Rattle.rlsf_model_global.specs.Moves.{ReallocatesTo}
use Rattle.rlsf_model_global.specs.Rows.{Row, put, without_row}

-- the payload at an address is now at another, or at its own, and serves a layout there; all others stay
pub record IsGivenLayout (before after : FlexContents PageCursor) (addr : ℕ) (wanted : Layout) (to : ℕ) : Type 0 where
  pub stands : FlexStandsFor 64 64 terms_of MayOwe after
  pub live : align_at after.state.machine to ≡ Some wanted.align
  pub sized : wanted.size ≤ length (bytes_at after.state.machine to)
  pub few : length (bytes_at after.state.machine to) < wanted.size + 32
  pub new : to ≢ addr → align_at before.state.machine to ≡ None
  pub left : to ≢ addr → align_at after.state.machine addr ≡ None
  pub aligns : (a : ℕ) → a ≢ addr → a ≢ to → align_at after.state.machine a ≡ align_at before.state.machine a
  pub bytes : (a : ℕ) → a ≢ addr → a ≢ to → bytes_at after.state.machine a ≡ bytes_at before.state.machine a

-- whatever entries the table has, the payload of a layout is resized, and its entry is the one at the returned address
abbrev pub ResizesWithAnyRows : Bool → FlexContents PageCursor → FlexContents PageCursor → ℕ → Layout → Layout → NonZeroUsize → Type 0
ResizesWithAnyRows enabled before after addr layout wanted to =
    (rows : List Row) → ReallocatesTo enabled (heap_of before rows) addr layout wanted (Ok to) (heap_of after (put (to, wanted) (without_row addr rows)))

-- what a move into a new payload keeps
pub record KeepsMoving (before after : FlexContents PageCursor) (keep : ℕ) (reply : Option NonZeroUsize) : Type 0 where
  -- place of the memory, and the bytes that belong to no block
  pub memory : KeepsMemory before after
  -- word accesses are only added
  pub grow : before.memory.touches ≤ after.memory.touches
  -- so many bytes are copied
  pub copied : IfSome reply (λ to. after.memory.copied ≡ before.memory.copied + keep)
  -- none if it is refused
  pub copied_none : IfNone reply (after.memory.copied ≡ before.memory.copied)

-- what a new size keeps
pub record KeepsResizing (enabled : Bool) (before after : FlexContents PageCursor) (addr size wanted : ℕ) : Type 0 where
  -- place of the memory, and the bytes that belong to no block
  pub memory : KeepsMemory before after
  -- word accesses are only added
  pub grow : before.memory.touches ≤ after.memory.touches
  -- how many bytes are copied is bounded
  pub copied : CopiesOnResize enabled before.state.machine addr size wanted before.memory after.memory

-- nothing changed
pub record StaysRefused (before after : FlexContents PageCursor) : Type 0 where
  pub stands : FlexStandsFor 64 64 terms_of MayOwe after
  pub state : after.state ≡ before.state
  pub source : after.source ≡ before.source
  pub bytes : after.memory.bytes ≡ before.memory.bytes
