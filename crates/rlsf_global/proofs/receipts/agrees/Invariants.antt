use Rattle.std.proofs.Common.{◌≡◌, ◌↔◌, drop}
use Rattle.rlsf_global.specs.Journal.Entries.{receipts_of}
use Rattle.rlsf_global.proofs.receipts.agrees.Given as goal

-- the receipts agree exactly if what is left of them agrees with what is left of the journal
abbrev pub invariant-loop-number : goal.invariant-loop-number
invariant-loop-number l = (l.receipts ≡ receipts_of l.caller 0 l.journal) ↔ (l.rest ≡ receipts_of l.caller l.number (drop l.number l.journal))
