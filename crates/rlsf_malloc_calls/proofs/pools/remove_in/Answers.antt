use Rattle.std.proofs.Common.{rules, ℕ, arith, inl, inr, refl, sym, ap, subst, ◌∙◌}
use Rattle.std.proofs.lemmas.Bool.{cases_lt}
use Rattle.rlsf_base.specs.Range.{LiesIn, range_at}
use Rattle.rlsf_model_sizes.specs.Rounding.{round32}
use Rattle.rlsf_model.specs.Callers.{align_at}
use Rattle.rlsf_model.specs.Insert.{IsUntouched}
use Rattle.rlsf_model.specs.Sized.{live_count}
use Rattle.rlsf_model.specs.State.{State}
use Rattle.rlsf_blocks.specs.Blocks.{walked}
use Rattle.rlsf_heap.specs.Heap.{Identity}
use Rattle.rlsf_heap.specs.Pools.{RemovesIfIdle}
use Rattle.rlsf_malloc_calls.specs.Calls.{front}
use Rattle.rlsf_malloc_calls.proofs.Outcomes.{heap_lent, kept_heap, kept_pool, removed_pool, same_beside, steps_again}
use Rattle.rlsf_malloc_calls.proofs.pools.remove_in.Goals as goal

-- no chunk overlaps a range of which none overlaps the front and the rest
untouched_whole : (start len : ℕ) (s : State) → IsUntouched s.chunks (front start) → IsUntouched s.chunks (walked (range_at start len))
    → IsUntouched s.chunks (range_at start len)
unfolding IsUntouched
untouched_whole start len s before rest a low high = elim (cases_lt a (round32 start)) [
  | inl in_front ↦ before a low (omega (arith, low, in_front))
  | inr behind ↦ rest a behind (omega (arith, high, behind))
]

pub reclaim_loan-requires : goal.reclaim_loan-requires
reclaim_loan-requires g c =
    let can = c.requires.1 in let did = c.try_remove_pool.ensures in let yes = c.if-try_remove_pool.true in let last = c.try_remove_pool.new.self in
    let range = range_at c.args.start c.args.len in let kept = kept_heap did.frame.heap did.frame.settled c.requires.0 in (
      search rules,
      (
        subst (λ (m : ℕ × ℕ). LiesIn range m.0 m.1) (λ i. (sym kept.start i, sym kept.len i)) can.lies,
        (
          untouched_whole c.args.start c.args.len last.state (did.untouched (front c.args.start) can.front) (did.result yes),
          (kept.ranges range can.range, kept.lent ∙ can.lent),
        ),
      ),
    )

pub returns-then-try_remove_pool : goal.returns-then-try_remove_pool
returns-then-try_remove_pool g c =
    let old = c.args.heap.now in let last = c.try_remove_pool.new.self in let new = c.reclaim_loan.new.self in let did = c.try_remove_pool.ensures in
    let back = c.reclaim_loan.ensures.reclaimed in
    let kept = kept_heap did.frame.heap did.frame.settled c.requires.0 in
    let same = back.heap.state in
    let changed = range_at c.args.start c.args.len in let range = walked changed in
    record {
      removes = removed_pool g.row.FLLEN g.row.SLLEN old new changed range c.try_remove_pool.result c.if-try_remove_pool.true
          (heap_lent changed kept back.heap c.reclaim_loan.ensures.others (back.settled kept.ready))
          (steps_again g.row.FLLEN g.row.SLLEN last new (RemovesIfIdle old.state range c.try_remove_pool.result) same did.step c.reclaim_loan.ensures.stands)
          (λ yes. subst (λ (s : State). IsUntouched s.chunks range) (sym same) (did.result yes))
          (ap (λ (s : State). align_at s) same ∙ did.frame.aligns)
          (ap (λ (s : State). live_count s) same ∙ did.frame.count)
          (λ q clear. subst (λ (s : State). IsUntouched s.chunks q) (sym same) (did.untouched q clear));
      given = λ some. record {
        home = back.home ∙ ap (λ (i : Identity). i.home) kept.identity;
        begins = back.part.start;
        long = back.part.len;
        full = back.full kept.ready;
      };
      none = λ zero. absurd (omega (arith, zero));
    }

pub returns-else-try_remove_pool : goal.returns-else-try_remove_pool
returns-else-try_remove_pool g c =
    let old = c.args.heap.now in let new = c.try_remove_pool.new.self in let did = c.try_remove_pool.ensures in
    let changed = range_at c.args.start c.args.len in
    record {
      removes = kept_pool g.row.FLLEN g.row.SLLEN old new changed (walked changed) c.try_remove_pool.result c.if-try_remove_pool.false
          (same_beside changed (kept_heap did.frame.heap did.frame.settled c.requires.0)) did.step did.refused did.frame.aligns did.frame.count did.untouched;
      given = λ some. absurd (some refl);
      none = λ zero. c.requires.1.nothing;
    }
