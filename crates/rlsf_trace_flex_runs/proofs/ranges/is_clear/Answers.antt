use Rattle.std.proofs.Common.{rules, tests}
use Rattle.std.proofs.lemmas.Iterator.{cases_from_all, YieldsList-from_slice}
use Rattle.rlsf_trace_flex_runs.proofs.HandedOut.{AreApart, clear_if_true}
use Rattle.rlsf_trace_flex_runs.proofs.ranges.is_clear.Goals as goal

pub returns : goal.returns
returns c = clear_if_true c.args.range c.args.taken.now _ c.all.result
    (cases_from_all _ _ c.all.result (AreApart c.args.range) (λ x. Unit {0}) c.all.ensures.ran (YieldsList-from_slice c.args.taken.now cc) (λ x q k. search (rules, tests))
    (λ x q k. search (rules, tests)))
