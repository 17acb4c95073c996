-- The laws of journals.
use Rattle.std.specs.Prelude.{◌≡◌, ℕ, ◌<◌, ◌^◌, List, length, map, slice_index_or}
use Rattle.rlsf_base.specs.Range.{end_of}
use Rattle.rlsf_global.specs.declared.entry.Call.{Call}
use Rattle.rlsf_global.specs.declared.entry.Entry.{Entry}
use Rattle.rlsf_global.specs.declared.entry.Receipt.{Receipt}
use Rattle.rlsf_global.specs.declared.entry.Reply.{Reply}
use Rattle.rlsf_global.specs.Journal.Entries.{receipts_of}
use Rattle.rlsf_global.specs.Journal.Replay.{IsReplay, IsRun, beginning_of}
use Rattle.rlsf_model.specs.Lists.{IsIn}
use Rattle.rlsf_model_global.specs.Heap.{HaveSamePlacement, Heap}

-- the entry at the receipt's number is this caller's, with the receipt's call and reply
pub record IsEntryOf (caller : ℕ) (journal : List Entry) (r : Receipt) : Type 0 where
  pub entry : Entry
  pub in_range : r.number < length journal
  pub here : (d : Entry) → slice_index_or journal r.number d ≡ entry
  pub caller_is : entry.caller ≡ caller
  pub call_is : entry.call ≡ r.call
  pub reply_is : entry.reply ≡ r.reply

-- a receipt names its entry by its number
abbrev pub ReceiptsAreEntries : Type 0
ReceiptsAreEntries = (caller : ℕ) (journal : List Entry) (r : Receipt) → IsIn r (receipts_of caller 0 journal) → IsEntryOf caller journal r

-- the calls of a journal, in their order
abbrev pub calls_of : List Entry → List Call
calls_of journal = map (λ e. e.call) journal

-- and their replies
abbrev pub replies_of : List Entry → List Reply
replies_of journal = map (λ e. e.reply) journal

-- The calls of a journal, in their order, determine their replies and the placement at the end, whatever was read and written meanwhile.
abbrev pub CallsDetermineReplies : Type 0
CallsDetermineReplies = (journal other : List Entry) (h g : Heap) → end_of h.source.space < 2 ^ 64 → beginning_of h ≡ beginning_of g → IsReplay journal h
    → IsReplay other g
    → calls_of journal ≡ calls_of other → (replies_of journal ≡ replies_of other) × HaveSamePlacement h g

-- all heaps to which a journal replays have one placement, so what is live at its end is known by it
abbrev pub ReplayDetermines : Type 0
ReplayDetermines = (journal : List Entry) (h g : Heap) → end_of h.source.space < 2 ^ 64 → beginning_of h ≡ beginning_of g → IsReplay journal h → IsReplay journal g
    → HaveSamePlacement h g

-- Two runs that closing returns are over one space and have the same calls in the same order. Then their replies and their
-- placements at the end are equal.
abbrev pub RunsDetermineReplies : Type 0
RunsDetermineReplies = (journal other : List Entry) (h g : Heap) → h.source.space ≡ g.source.space → IsRun journal h → IsRun other g
    → calls_of journal ≡ calls_of other → (replies_of journal ≡ replies_of other) × HaveSamePlacement h g
