use Rattle.std.proofs.Common.{◌≡◌, drop}
use Rattle.rlsf_global.specs.Journal.Close.{has_pass}
use Rattle.rlsf_global.proofs.agreement.has_pass.Given as goal

abbrev pub invariant-loop-i : goal.invariant-loop-i
invariant-loop-i l = has_pass l.caller l.passes ≡ has_pass l.caller (drop l.i l.passes)
