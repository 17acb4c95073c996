use Rattle.std.proofs.Common.{◌≡◌, drop}
use Rattle.rlsf_global.specs.Journal.Close.{is_strange}
use Rattle.rlsf_global.proofs.agreement.is_strange.Given as goal

abbrev pub invariant-loop-i : goal.invariant-loop-i
invariant-loop-i l = is_strange l.callers l.passes ≡ is_strange l.callers (drop l.i l.passes)
