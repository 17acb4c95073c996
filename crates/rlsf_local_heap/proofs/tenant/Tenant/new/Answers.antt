use Rattle.std.proofs.Common.{Some, arith, refl, sym, ap, subst, ◌∙◌}
use Rattle.rlsf_model.specs.Allocate.{Allocates}
use Rattle.rlsf_model.specs.Callers.{align_at}
use Rattle.rlsf_base.specs.Range.{range_at}
use Rattle.rlsf_heap.specs.Heap.{Steps}
use Rattle.rlsf_heap.proofs.Kept.{frame_same}
use Rattle.rlsf_heap.proofs.OnCores.{if_none, if_some}
use Rattle.rlsf_local_heap.specs.Constants.{chunks_of_range}
use Rattle.rlsf_local_heap.proofs.Outcomes.{at_address, both, made_of, not_made, others_stay}
use Rattle.rlsf_local_heap.proofs.tenant.Tenant.new.Goals as goal
use Rattle.rlsf_tlsf.proofs.Replied.{some_more}
use Rattle.rlsf_blocks.proofs.Refused.{none_more}

pub returns-then-is_too_long : goal.returns-then-is_too_long
returns-then-is_too_long g c =
    record {
      step = tt;
      result = tt;
      aligns = λ a live. refl;
      refused = record { same = refl; bytes = refl };
      frame = frame_same c.args.pool.now;
      touches = omega arith;
    }

pub returns-in_err-fields : goal.returns-in_err-fields
returns-in_err-fields g c =
    let none = c.from_residual.ensures in record {
      step = if_some _ none;
      result = if_some _ none;
      aligns = λ a live. refl;
      refused = if_none _ none (record { same = refl; bytes = refl });
      frame = frame_same c.args.pool.now;
      touches = omega arith;
    }

pub returns : goal.returns
returns g c =
    let old = c.args.pool.now in let new = c.allocate_units-payload.new.self in let payload = c.allocate_units-payload.result in let tenant = c.over.result in
    let did = c.allocate_units-payload.ensures in let over = c.over.ensures in
    record {
      step = made_of payload tenant over.none over.lease
          (λ p t ties is. subst (λ a. Steps g.row.FLLEN g.row.SLLEN new (Allocates g.row.SLLEN old.state c.args.len 16 (Some a))) (sym ties.1) is)
          (at_address (λ a. Steps g.row.FLLEN g.row.SLLEN new (Allocates g.row.SLLEN old.state c.args.len 16 a)) payload did.step);
      result = made_of payload tenant over.none (both _ _ payload tenant over.lease over.pool) (λ p t ties is. record {
        tenant = ties.0.0 ∙ is.complete.0;
        long = ties.0.2 ∙ is.long;
        pool = ties.1 ∙ ap (λ n. chunks_of_range g.row.FLLEN (range_at 64 n)) is.long;
        new = ap (align_at old.state) ties.0.1 ∙ is.new;
        live = ap (align_at new.state) ties.0.1 ∙ is.live;
        count = is.count;
      }) did.result;
      aligns = others_stay old.state new.state payload (some_more payload (λ p is. is.new) did.result) (some_more payload (λ p is. is.aligns) did.result)
          (none_more payload (λ is. is.same) did.refused);
      refused = not_made _ payload tenant over.some did.refused;
      frame = did.frame;
      touches = did.touches;
    }
