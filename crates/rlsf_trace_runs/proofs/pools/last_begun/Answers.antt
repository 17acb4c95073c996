use Rattle.std.proofs.Common.{◌<◌, ◌≤◌, ℕ, length, slice_index_or, arith, sym, ap, subst}
use Rattle.rlsf_base.specs.declared.memory.range.Range.{Range}
use Rattle.rlsf_trace_runs.specs.Steps.Pools.{IsLastBegun}
use Rattle.rlsf_trace_runs.proofs.PoolRuns.{before_later, behind_next, last_run_ascends, run_ascends}
use Rattle.rlsf_trace_runs.proofs.pools.last_begun.Goals as goal

pub later-found-requires-clause-in_order : goal.later-found-requires-clause-in_order
later-found-requires-clause-in_order c =
    let n = c.loop-next.next-index in
    let firsts = c.deref-next-items.ensures.value in
    let there : n < length c.args.pools.now.firsts.items = omega (arith, c.loop-next-test.true, ap length firsts) in
    subst (λ l. (i j : ℕ) (d : Range) → c.loop-next.first ≤ i → i < j → j < slice_index_or c.deref-next-items.result.now n 0
    → (slice_index_or l i d).start ≤ (slice_index_or l j d).start) (sym c.deref.ensures.value)
    (λ i j d from lower below. run_ascends c.requires c.loop-next.first n c.loop-next.invariant.0 there i j d from lower
    (omega (arith, below, ap (λ l. slice_index_or l n 0) firsts)))

pub loop-next-preserved : goal.loop-next-preserved
loop-next-preserved c =
    let n = c.loop-next.next-index in
    let firsts = c.deref-next-items.ensures.value in
    let there : n < length c.args.pools.now.firsts.items = omega (arith, c.loop-next-test.true, ap length firsts) in
    let next = ap (λ l. slice_index_or l n 0) firsts in (
      λ k d below. omega (arith, next, behind_next c.requires c.loop-next.first n c.loop-next.invariant.0 there k d below),
      λ k d from below. omega (arith, next, before_later c.requires c.loop-next.first n c.loop-next.invariant.0 there k d from below),
      omega (arith, next, c.requires.within n 0 there),
      subst (λ l. IsLastBegun l (slice_index_or c.deref-next-items.result.now n 0) c.args.addr c.later-found.result) c.deref.ensures.value c.later-found.ensures,
    )

pub later-requires-clause-in_order : goal.later-requires-clause-in_order
later-requires-clause-in_order c =
    subst (λ l. (i j : ℕ) (d : Range) → c.loop-next.first ≤ i → i < j → j < c.len.result → (slice_index_or l i d).start ≤ (slice_index_or l j d).start)
    (sym c.deref-2.ensures.value)
    (λ i j d from lower below. last_run_ascends c.requires c.loop-next.first c.loop-next.next-index c.loop-next.invariant.0
    (omega (arith, c.loop-next-test.false, ap length c.deref-next-items.ensures.value)) i j d from lower (omega (arith, below, c.len.ensures)))
