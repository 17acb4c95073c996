use Rattle.rlsf_global.specs.Journal.Passes.{AreFirst}
use Rattle.rlsf_global.proofs.journaled.first_passes.Given as goal

abbrev pub invariant-loop-caller : goal.invariant-loop-caller
invariant-loop-caller l = AreFirst l.caller l.passes.items
