-- Passes, and what calls add to them.
use Rattle.std.specs.Prelude.{◌≡◌, ℕ, ◌<◌, List, [], ◌++◌, length, slice_index_or, Ok, Err}
use Rattle.rlsf_global.specs.declared.entry.Call.{Call}
use Rattle.rlsf_global.specs.declared.entry.Receipt.{Receipt}
use Rattle.rlsf_global.specs.declared.entry.Reply.{Reply}
use Rattle.rlsf_global.specs.declared.entry.Reply.TheVariants as reply
use Rattle.rlsf_global.specs.Journal.Entries.{IsReplyTo, receipts_for}
use Rattle.rlsf_model_global.specs.declared.error.GlobalError.TheVariants.{NoRoom, UnknownAddress, TableMemory, JournalMemory}
use Rattle.rlsf_model_global.specs.Steps.{Done, Placed}

-- a pass as contracts see it: its caller's number, and the receipts of that caller's calls
pub record PassContents : Type 0 where
  pub caller : ℕ
  pub receipts : List Receipt

-- a pass that was never used
abbrev pub unused : ℕ → PassContents
unused caller = record { caller = caller; receipts = [] }

-- the passes of the numbers below n, in order, none used
abbrev pub AreFirst : ℕ → List PassContents → Type 0
AreFirst n passes = (length passes ≡ n) × ((i : ℕ) (d : PassContents) → i < n → slice_index_or passes i d ≡ unused i)

-- what a call that may return an address returns by a reply
abbrev pub placed_by : Reply → Placed
placed_by (reply.Placed addr) = Ok addr
placed_by reply.NoRoom = Err NoRoom
placed_by reply.TableMemory = Err TableMemory
placed_by reply.JournalMemory = Err JournalMemory
placed_by r = Err UnknownAddress

-- what a deallocation returns by a reply
abbrev pub done_by : Reply → Done
done_by reply.Freed = Ok tt
done_by reply.JournalMemory = Err JournalMemory
done_by r = Err UnknownAddress

-- The call returns by a reply of its own, and its pass has one more receipt, of that call and that reply. If it is out of memory,
-- the pass has no more receipt.
pub record Receipted {A : Type 0} (answer_by : Reply → A) (call : Call) (answer : A) (old new : PassContents) : Type 0 where
  pub reply : Reply
  pub fits : IsReplyTo call reply
  pub answered : answer ≡ answer_by reply
  pub number : ℕ
  pub receipts : new.receipts ≡ old.receipts ++ receipts_for number call reply
  pub caller : new.caller ≡ old.caller
