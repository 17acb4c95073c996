-- The heap that a journal replays to.
use Rattle.std.specs.Prelude.{◌≡◌, ℕ, ◌<◌, ◌≤◌, ◌^◌, List, [], length, map, All, Ok, Err, true}
use Rattle.rlsf_base.specs.Addr.{at}
use Rattle.rlsf_base.specs.Range.{end_of}
use Rattle.rlsf_global.specs.Locked.{LockedContents}
use Rattle.rlsf_global.specs.declared.entry.Call.{Call}
use Rattle.rlsf_global.specs.declared.entry.Call.TheVariants.{Allocate, Deallocate, Reallocate}
use Rattle.rlsf_global.specs.declared.entry.Entry.{Entry}
use Rattle.rlsf_global.specs.declared.entry.Reply.{Reply}
use Rattle.rlsf_global.specs.declared.entry.Reply.TheVariants.{Placed, Freed, NoRoom, UnknownAddress, TableMemory, JournalMemory}
use Rattle.rlsf_model_global.specs.declared.error.GlobalError.TheVariants as error
use Rattle.rlsf_global.specs.Journal.Entries.{IsReplyTo}
use Rattle.rlsf_global.specs.Journal.Passes.{done_by, placed_by}
use Rattle.rlsf_model_global.specs.Heap.{Heap, beginning}
use Rattle.rlsf_model_global.specs.History.{Step, allocate, deallocate, reallocate}
use Rattle.rlsf_model_global.specs.Moves.{HeapReallocates}
use Rattle.rlsf_model_global.specs.Replays as placement
use Rattle.rlsf_model_global.specs.Rows.{Row}
use Rattle.rlsf_model_global.specs.Steps.{HeapAllocates, HeapDeallocates}

-- a call with its reply is a step from one heap to another
abbrev pub CallLeads : Heap → Call → Reply → Heap → Type 0
CallLeads h (Allocate layout) (Placed addr) g = HeapAllocates h layout (Ok addr) g
CallLeads h (Allocate layout) NoRoom g = HeapAllocates h layout (Err error.NoRoom) g
CallLeads h (Deallocate addr) Freed g = HeapDeallocates h (at addr) (Ok tt) g
CallLeads h (Deallocate addr) UnknownAddress g = HeapDeallocates h (at addr) (Err error.UnknownAddress) g
CallLeads h (Reallocate addr layout) (Placed to) g = HeapReallocates h (at addr) layout (Ok to) g
CallLeads h (Reallocate addr layout) NoRoom g = HeapReallocates h (at addr) layout (Err error.NoRoom) g
CallLeads h (Reallocate addr layout) UnknownAddress g = HeapReallocates h (at addr) layout (Err error.UnknownAddress) g
CallLeads h call reply g = ⊥

-- a call is a step, or it is out of memory and changes nothing
abbrev pub LeadsOrRefused : Heap → Call → Reply → Heap → Type 0
LeadsOrRefused h call TableMemory g = g ≡ h
LeadsOrRefused h call JournalMemory g = g ≡ h
LeadsOrRefused h call reply g = CallLeads h call reply g

-- the step of a call with its reply, as a value
abbrev pub step_by : Call → Reply → Step
step_by (Allocate layout) reply = allocate layout (placed_by reply)
step_by (Deallocate addr) reply = deallocate (at addr) (done_by reply)
step_by (Reallocate addr layout) reply = reallocate (at addr) layout (placed_by reply)

-- and the step that an entry is
abbrev pub step_of : Entry → Step
step_of e = step_by e.call e.reply

-- nothing was placed in the heap's space yet
abbrev pub beginning_of : Heap → Heap
beginning_of h = beginning h.source.space h.source.grows

-- Each reply is one of its call's, and the entries' steps replay to the heap. With reads and writes among them, which have no
-- entry, they lead there from nothing placed, one after another.
pub record IsReplay (journal : List Entry) (h : Heap) : Type 0 where
  pub fits : All (λ e. IsReplyTo e.call e.reply) journal
  pub replayed : placement.ReplaysTo h.source.space h.source.grows (map step_of journal) h

-- The journal replays to the heap, over a source whose newest range grows, in a space whose addresses fit in a word. So it is one run of the
-- allocator that the coalescing kind of shared allocators has, and the laws of journals hold of it.
pub record IsRun (journal : List Entry) (h : Heap) : Type 0 where
  pub replay : IsReplay journal h
  pub grows : h.source.grows ≡ true
  pub addressable : end_of h.source.space < 2 ^ 64

-- What is true of each book: its journal is a run to its heap, and an empty `Vec` has room for the live addresses.
pub record IsBook (journal : List Entry) (h : Heap) (listed : List Row) (capacity : ℕ) : Type 0 where
  pub run : IsRun journal h
  pub none : listed ≡ []
  pub room : length h.asked ≤ capacity

-- a book as contracts see it: the value with the heap, and the entries
pub record BookContents : Type 0 where
  pub locked : LockedContents
  pub journal : List Entry

-- what the type of a book keeps of its contents: its journal is a run to its heap
unfoldable pub BookStands : BookContents → Type 0
BookStands b = IsRun b.journal b.locked.heap
