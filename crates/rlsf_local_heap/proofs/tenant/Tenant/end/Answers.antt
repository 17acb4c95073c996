use Rattle.std.proofs.Common.{ℕ, arith, rules, true≢false, refl, sym, subst}
use Rattle.rlsf_model.specs.Release.{Deallocates}
use Rattle.rlsf_base.specs.Range.{range_at}
use Rattle.rlsf_heap.specs.Frame.{KeepsFrameBeside}
use Rattle.rlsf_heap.specs.Heap.{Steps}
use Rattle.rlsf_heap.specs.Replies.{IsGone}
use Rattle.rlsf_local_heap.proofs.Outcomes.{frame_beside-same}
use Rattle.rlsf_local_heap.proofs.tenant.Tenant.end.Goals as goal

pub into_memory-requires : goal.into_memory-requires
into_memory-requires g c = (search rules, omega (arith, c.live.ensures))

pub returns-in_default : goal.returns-in_default
returns-in_default g c =
    record {
      step = λ e. absurd (true≢false (sym e));
      result = λ e. absurd (true≢false (sym e));
      aligns = λ a apart. refl;
      refused = λ e. refl;
      frame = frame_beside-same c.args.pool.now _;
      touches = omega arith;
    }

pub returns-then-live-ne0 : goal.returns-then-live-ne0
returns-then-live-ne0 g c =
    record {
      step = λ e. absurd (true≢false (sym e));
      result = λ e. absurd (true≢false (sym e));
      aligns = λ a apart. refl;
      refused = λ e. refl;
      frame = frame_beside-same c.args.pool.now _;
      touches = omega arith;
    }

pub returns : goal.returns
returns g c =
    let old = c.args.pool.now in let new = c.deallocate_units.new.self in let did = c.deallocate_units.ensures in let at = c.end.ensures.1 in let len = c.end.ensures.2 in
    let gone = subst (IsGone old.state new.state) at did.result in
    record {
      step = λ e. subst (λ a. Steps g.row.FLLEN g.row.SLLEN new (Deallocates old.state a)) at did.step;
      result = λ e. gone;
      aligns = gone.aligns;
      refused = λ e. absurd (true≢false e);
      frame = subst (λ (r : ℕ × ℕ). KeepsFrameBeside old new (range_at r.0 r.1)) (λ i. (at i, len i)) did.frame;
      touches = did.touches;
    }
