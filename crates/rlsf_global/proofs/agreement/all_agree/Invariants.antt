use Rattle.std.proofs.Common.{◌≡◌}
use Rattle.std.specs.List.{AllWithin}
use Rattle.rlsf_global.specs.Journal.Entries.{receipts_of}
use Rattle.rlsf_global.proofs.agreement.all_agree.Given as goal

abbrev pub invariant-loop-i : goal.invariant-loop-i
invariant-loop-i l = AllWithin (λ p. p.receipts ≡ receipts_of p.caller 0 l.journal) l.passes 0 l.i
