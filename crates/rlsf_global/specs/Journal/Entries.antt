-- Entries of a journal, and the receipts of callers.
use Rattle.std.specs.Prelude.{ℕ, ◌+◌, List, [], ◌∷◌, ◌==◌, if◌then◌else◌}
use Rattle.rlsf_global.specs.declared.entry.Call.{Call}
use Rattle.rlsf_global.specs.declared.entry.Call.TheVariants.{Allocate, Deallocate, Reallocate}
use Rattle.rlsf_global.specs.declared.entry.Entry.{Entry}
use Rattle.rlsf_global.specs.declared.entry.Receipt.{Receipt}
use Rattle.rlsf_global.specs.declared.entry.Reply.{Reply}
use Rattle.rlsf_global.specs.declared.entry.Reply.TheVariants.{Placed, Freed, NoRoom, UnknownAddress, TableMemory, JournalMemory}

-- the reply is one that the call can have
abbrev pub IsReplyTo : Call → Reply → Type 0
IsReplyTo (Allocate layout) Freed = ⊥
IsReplyTo (Allocate layout) UnknownAddress = ⊥
IsReplyTo (Deallocate addr) (Placed to) = ⊥
IsReplyTo (Deallocate addr) NoRoom = ⊥
IsReplyTo (Deallocate addr) TableMemory = ⊥
IsReplyTo (Reallocate addr layout) Freed = ⊥
IsReplyTo (Reallocate addr layout) TableMemory = ⊥
IsReplyTo call reply = Unit {0}

-- how many payloads are live at most after a call, where so many are before it
abbrev pub most_live : Call → ℕ → ℕ
most_live (Allocate layout) live = live + 1
most_live call live = live

-- the entries of a call: one, or none if it is out of memory
abbrev pub entries_of : ℕ → Call → Reply → List Entry
entries_of caller call TableMemory = []
entries_of caller call JournalMemory = []
entries_of caller call reply = record { caller = caller; call = call; reply = reply } ∷ []

-- what a caller has of an entry
abbrev pub receipt : ℕ → Call → Reply → Receipt
receipt number call reply = record { number = number; call = call; reply = reply }

-- the receipts of a call: one, or none if it is out of memory
abbrev pub receipts_for : ℕ → Call → Reply → List Receipt
receipts_for number call TableMemory = []
receipts_for number call JournalMemory = []
receipts_for number call reply = receipt number call reply ∷ []

-- the receipts of a caller's entries, in their order, where the first entry has the number n
abbrev pub receipts_of : ℕ → ℕ → List Entry → List Receipt
receipts_of caller n [] = []
receipts_of caller n (e ∷ es) = if e.caller == caller then receipt n e.call e.reply ∷ receipts_of caller (n + 1) es else receipts_of caller (n + 1) es

-- a reply other than an address or a deallocation changes nothing
abbrev pub IfRefused : Reply → Type 0 → Type 0
IfRefused (Placed to) nothing_changed = Unit {0}
IfRefused Freed nothing_changed = Unit {0}
IfRefused reply nothing_changed = nothing_changed
