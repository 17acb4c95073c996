use Rattle.rlsf_global.specs.Journal.Close.{HasEach}
use Rattle.rlsf_global.proofs.agreement.is_missing.Given as goal

abbrev pub invariant-loop-caller : goal.invariant-loop-caller
invariant-loop-caller l = HasEach l.caller l.passes
