use Rattle.std.proofs.Common.{rules, inr}
use Rattle.rlsf_trace_runs.proofs.PoolRuns.{BeginsRun-popped}
use Rattle.rlsf_trace_runs.proofs.pools.join_last.Goals as goal

pub returns-in-Some : goal.returns-in-Some
returns-in-Some c = λ len within.
    BeginsRun-popped c.args.firsts.now.items c.pop.new.self.items len c.in-Some.first.now c.requires within (search rules) (inr (search rules, λ d. search rules))
