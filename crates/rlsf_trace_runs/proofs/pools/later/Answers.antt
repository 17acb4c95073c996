use Rattle.std.proofs.Common.{◌+◌, ◌-◌, arith, subst}
use Rattle.rlsf_trace_runs.specs.Steps.Pools.{IsLastBegun}
use Rattle.rlsf_trace_runs.proofs.PoolRuns.{first_last, found_last, run_last, still_last}
use Rattle.rlsf_trace_runs.proofs.pools.later.Goals as goal

pub returns-then-begun-eq0 : goal.returns-then-begun-eq0
returns-then-begun-eq0 c =
    still_last c.args.pools.now c.requires.bounds c.begun_before-begun.ensures.bound c.begun_before-begun.ensures.point c.if-begun-eq0.true c.args.found c.requires.found

pub returns-in-Some : goal.returns-in-Some
returns-in-Some c =
    found_last c.args.pools.now c.requires.bounds c.begun_before-begun.ensures.bound c.begun_before-begun.ensures.point (c.args.first + c.begun_before-begun.result - 1)
    (omega (arith, c.if-begun-eq0.false)) (omega (arith, c.if-begun-eq0.false)) c.requires.in_order c.in-Some.place
    (subst (IsLastBegun c.args.pools.now c.args.first c.args.addr) c.in-Some.is c.requires.found) c.if-pools-last.true

pub returns-in_default : goal.returns-in_default
returns-in_default c =
    run_last c.args.pools.now c.requires.bounds c.begun_before-begun.ensures.bound c.begun_before-begun.ensures.point (c.args.first + c.begun_before-begun.result - 1)
    (omega (arith, c.if-begun-eq0.false)) (omega (arith, c.if-begun-eq0.false)) c.requires.in_order c.in-Some.place
    (subst (IsLastBegun c.args.pools.now c.args.first c.args.addr) c.in-Some.is c.requires.found) c.if-pools-last.false

pub returns-in_default-2 : goal.returns-in_default-2
returns-in_default-2 c =
    first_last c.args.pools.now c.requires.bounds c.begun_before-begun.ensures.bound c.begun_before-begun.ensures.point (c.args.first + c.begun_before-begun.result - 1)
    (omega (arith, c.if-begun-eq0.false)) (omega (arith, c.if-begun-eq0.false)) c.requires.in_order
    (subst (IsLastBegun c.args.pools.now c.args.first c.args.addr) c.in_default.is c.requires.found)
