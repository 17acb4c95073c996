-- The value under the lock as contracts see it.
use Rattle.std.specs.Prelude.{◌≡◌, ℕ, List, length}
use Rattle.rlsf_base.specs.Space.{Space}
use Rattle.rlsf_flex.specs.StandsFor.{FlexContents, FlexStandsFor}
use Rattle.rlsf_codes.specs.Codes.{CodeSpace, codes_for}
use Rattle.rlsf_global.specs.LiveRows.{LiveRows}
use Rattle.rlsf_model_global.specs.Pages.{MayOwe}
use Rattle.rlsf_model_global.specs.Cursor.{PageCursor, terms_of}
use Rattle.rlsf_model_global.specs.Heap.{Heap, Lists}
use Rattle.rlsf_model_global.specs.Rows.{IsSorted, Row}
use Rattle.rlsf_table.specs.Table.{Table}

-- Its memory, its class table, and its heap. The heap is the model's state with the ranges that the source provided, the source's
-- cursor, and the entries of the table of live addresses. Then that table as it is kept, and how many of its codes calls have read or
-- written.
pub record LockedContents : Type 0 where
  pub memory : Space
  pub table : Table
  pub heap : Heap
  pub live : LiveRows
  pub looks : ℕ

-- the heap of an allocator over pages, with these entries
abbrev pub heap_of : FlexContents PageCursor → List Row → Heap
heap_of f rows = record { flex = f.state; source = f.source; asked = rows }

-- the contents by their parts
abbrev pub locked_contents : FlexContents PageCursor → LiveRows → LockedContents
locked_contents f live = record { memory = f.memory; table = f.table; heap = heap_of f live.rows; live = live; looks = live.looks }

-- the allocator over pages
abbrev pub flex_of : LockedContents → FlexContents PageCursor
flex_of v = record { memory = v.memory; table = v.table; source = v.heap.source; state = v.heap.flex }

-- What is true of every such allocator with its entries: its state is well-formed in its memory, with the ranges that the source owes. The
-- entries list exactly the live payloads, in the order of their addresses.
pub record IsLocked (f : FlexContents PageCursor) (rows : List Row) : Type 0 where
  pub flex : FlexStandsFor 64 64 terms_of MayOwe f
  pub sorted : IsSorted rows
  pub lists : Lists rows f.state.machine

-- the addresses with codes are those of the memory
abbrev pub IsSpaceOf : Space → CodeSpace ℕ → Type 0
IsSpaceOf m s = s ≡ codes_for m.start (length m.bytes) 0

-- and the table of live addresses has a code for each multiple of 16 in the memory
pub record IsListed (f : FlexContents PageCursor) (live : LiveRows) : Type 0 where
  pub locked : IsLocked f live.rows
  pub space : IsSpaceOf f.memory live.space

-- IsLocked, as contracts cite it
unfoldable pub LockedStands : LockedContents → Type 0
LockedStands v = IsLocked (flex_of v) v.heap.asked
