use Rattle.std.proofs.Common.{◌≡◌, ℕ, Bool, true, false, arith, sym, ap, subst, ◌∙◌}
use Rattle.std.proofs.lemmas.Bool.{false≢true, true≢false}
use Rattle.rlsf_base.specs.declared.memory.range.Range.{Range}
use Rattle.rlsf_base.specs.Range.{range_at}
use Rattle.rlsf_model.specs.Callers.{align_at}
use Rattle.rlsf_model.specs.Insert.{IsUntouched}
use Rattle.rlsf_model.specs.Remove.{IsIdle, Removes}
use Rattle.rlsf_model.specs.Sized.{live_count}
use Rattle.rlsf_model.specs.State.{State}
use Rattle.rlsf_blocks.specs.Blocks.{walked}
use Rattle.rlsf_heap.specs.Heap.{AreAmong, HeapView, Identity, Stands, Steps}
use Rattle.rlsf_heap.specs.Lending.{HasPool}
use Rattle.rlsf_heap.specs.Pools.{RemovesIfIdle}
use Rattle.rlsf_heap.proofs.RangePools.{pool_gone, pools_removed}
use Rattle.rlsf_heap.proofs.heap.Heap.reclaim_pool.Goals as goal

removed_if : (s t : State) (r : Range) (b : Bool) → b ≡ true → RemovesIfIdle s r b t → IsIdle s r × Removes s r t
removed_if s t r true e did = did
removed_if s t r false e did = absurd (false≢true e)

refused_if : (s t : State) (r : Range) (b : Bool) → b ≡ false → RemovesIfIdle s r b t → IsIdle s r → ⊥
refused_if s t r true e did = absurd (true≢false e)
refused_if s t r false e did = did.0

pub try_remove_pool-requires : goal.try_remove_pool-requires
unfolding HasPool
try_remove_pool-requires g c = (omega arith, c.requires.pool.1)

pub reclaim-requires : goal.reclaim-requires
reclaim-requires g c =
    let e = c.try_remove_pool.ensures in
    let r = c.args.range in
    let place = e.frame.heap.place in (
      omega arith,
      (
        (omega (arith, place.0, c.requires.lies_in.0), omega (arith, place.0, place.1, c.requires.lies_in.1)),
        (
          pool_gone c.args.self.now.state c.try_remove_pool.new.self.state r c.args.taken c.requires.pool e.untouched (e.result c.if-try_remove_pool.true),
          (subst (λ (bytes : ℕ → Bool). AreAmong bytes r) (sym e.frame.heap.lent_bytes) c.requires.range, e.frame.heap.lent ∙ c.requires.lent),
        ),
      ),
    )

pub returns-then-try_remove_pool-clause-reclaimed : goal.returns-then-try_remove_pool-clause-reclaimed
unfolding Steps
returns-then-try_remove_pool-clause-reclaimed g c =
    let r = c.args.range in
    let s = c.args.self.now.state in
    let t = c.try_remove_pool.new.self.state in
    let first = c.try_remove_pool.ensures in
    let then = c.reclaim.ensures.reclaimed in
    let did = removed_if s t (walked (range_at r.start c.args.taken)) c.try_remove_pool.result c.if-try_remove_pool.true first.step.0 in
    let frame = first.frame in (
      did.0,
      record {
        removes = then.heap.state ∙ did.1;
        gone = subst (λ (u : State). IsUntouched u.chunks r) (sym then.heap.state)
            (pool_gone s t r c.args.taken c.requires.pool first.untouched (first.result c.if-try_remove_pool.true));
        aligns = ap align_at then.heap.state ∙ frame.aligns;
        count = ap live_count then.heap.state ∙ frame.count;
        home = then.home ∙ ap (λ (i : Identity). i.home) frame.heap.identity;
        start = then.part.start;
        len = then.part.len;
        full = λ settled. then.full (frame.settled settled);
        away = then.away;
        settled = λ settled. then.settled (frame.settled settled);
      },
    )

pub returns-then-try_remove_pool-clause-heap : goal.returns-then-try_remove_pool-clause-heap
returns-then-try_remove_pool-clause-heap g c =
    let then = c.reclaim.ensures.reclaimed.heap in
    let frame = c.try_remove_pool.ensures.frame.heap in
    (then.identity ∙ frame.identity, then.place.0 ∙ frame.place.0, then.place.1 ∙ frame.place.1, then.lent ∙ frame.lent)

pub returns-then-try_remove_pool-clause-pools : goal.returns-then-try_remove_pool-clause-pools
unfolding Steps
returns-then-try_remove_pool-clause-pools g c =
    let r = c.args.range in
    let s = c.args.self.now.state in
    let t = c.try_remove_pool.new.self.state in
    let e = c.try_remove_pool.ensures in
    let did = removed_if s t (walked (range_at r.start c.args.taken)) c.try_remove_pool.result c.if-try_remove_pool.true e.step.0 in
    let kept = pools_removed s t r c.args.taken c.requires.pool did.1 e.untouched in
    λ p n pool apart. subst (λ (u : State). HasPool u.chunks p n) (sym c.reclaim.ensures.reclaimed.heap.state) (kept p n pool apart)

pub returns-else-try_remove_pool-clause-pools : goal.returns-else-try_remove_pool-clause-pools
returns-else-try_remove_pool-clause-pools g c =
    λ p n pool apart. subst (λ (v : HeapView). HasPool v.state.chunks p n) (sym (c.try_remove_pool.ensures.refused c.if-try_remove_pool.false)) pool

pub returns-else-try_remove_pool-clause-stands : goal.returns-else-try_remove_pool-clause-stands
unfolding Steps Stands
returns-else-try_remove_pool-clause-stands g c = c.try_remove_pool.ensures.step.1

pub returns-else-try_remove_pool-clause-refused : goal.returns-else-try_remove_pool-clause-refused
unfolding Steps
returns-else-try_remove_pool-clause-refused g c =
    let e = c.try_remove_pool.ensures in (
      refused_if c.args.self.now.state c.try_remove_pool.new.self.state (walked (range_at c.args.range.start c.args.taken)) c.try_remove_pool.result
          c.if-try_remove_pool.false e.step.0,
      e.refused c.if-try_remove_pool.false,
    )
