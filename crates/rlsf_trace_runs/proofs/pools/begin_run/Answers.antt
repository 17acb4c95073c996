use Rattle.std.proofs.Common.{rules, sym, subst, ◌≡◌}
use Rattle.rlsf_trace_runs.specs.Steps.Pools.{BeginsRun}
use Rattle.rlsf_trace_runs.proofs.PoolRuns.{BeginsRun-pushed}
use Rattle.rlsf_trace_runs.proofs.pools.begin_run.Goals as goal

pub returns-then-last_two_are_equal : goal.returns-then-last_two_are_equal
returns-then-last_two_are_equal c = c.join_last.ensures c.args.len c.requires.within

pub returns-in-Ok : goal.returns-in-Ok
returns-in-Ok c =
    subst (λ l. BeginsRun c.args.firsts.now.items l c.args.len c.args.len) (sym c.in-Ok.ensures.items)
    (BeginsRun-pushed c.args.firsts.now.items c.args.len c.requires.ascending c.requires.within)

pub returns-in-Err : goal.returns-in-Err
returns-in-Err c =
    let same : c.push.new.self.items ≡ c.args.firsts.now.items = c.in-Err.ensures.items in
    subst (λ l. BeginsRun l c.join_last-in-Err.new.firsts.items c.args.len c.join_last-in-Err.result) same
    (c.join_last-in-Err.ensures c.args.len (search rules))
