use Rattle.std.proofs.Common.{◌∙◌, sym, arith, true≢false}
use Rattle.rlsf_global.proofs.Journal.ReceiptsOf.{own}
use Rattle.rlsf_global.proofs.receipts.agrees.Goals as goal

pub returns-in_default : goal.returns-in_default
returns-in_default c =
    let none = c.in_default.ensures.cases in
    let here = own c.args.caller c.args.journal.now c.loop-number.number _ c.loop-number-test.true c.index-journal-number.is c.if-entry-caller.true in
    (λ h. absurd (true≢false (sym h)), λ e. let same = c.loop-number.invariant.0 e ∙ here in grind (arith, same, none))
