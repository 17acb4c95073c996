use Rattle.std.proofs.Common.{true≢false, sym, ap, subst, ◌∙◌}
use Rattle.rlsf_model.specs.Allocate.{Allocates}
use Rattle.rlsf_heap.specs.Heap.{PayloadView, Steps}
use Rattle.rlsf_heap.specs.Replies.{IsAllocatedZeroed}
use Rattle.rlsf_heap.specs.Thin.{reply_of}
use Rattle.rlsf_heap.proofs.Tickets.{is_some, thin_step}
use Rattle.rlsf_heap.proofs.heap.Heap.allocate_thin_zeroed.Goals as goal

pub returns-in-Some : goal.returns-in-Some
returns-in-Some g c =
    let e = c.in-Some.ensures in
    let is = c.into_thin.ensures.1 in record {
      step = thin_step g.row.FLLEN g.row.SLLEN c.args.self.now c.allocate_zeroed.new.self c.args.layout.size c.args.layout.align c.in-Some.payload c.into_thin.result.of is
          e.step;
      result = record {
        at = c.into_thin.ensures.0 ∙ ap (λ (p : PayloadView). p.start) (sym is);
        made = λ it. subst (IsAllocatedZeroed c.args.self.now c.allocate_zeroed.new.self c.args.layout.size c.args.layout.align) (sym is) e.result;
      };
      room = λ count most wide sized few short fits. is_some g.row.FLLEN g.row.SLLEN c.args.self.now c.allocate_zeroed.new.self c.args.layout.size c.args.layout.align
          c.in-Some.payload c.into_thin.result.of is e.step;
      bounds = e.bounds;
      refused = λ none. absurd (is_some g.row.FLLEN g.row.SLLEN c.args.self.now c.allocate_zeroed.new.self c.args.layout.size c.args.layout.align c.in-Some.payload
          c.into_thin.result.of is e.step none);
      frame = e.frame;
      touches = e.touches;
    }

pub returns-in-None : goal.returns-in-None
returns-in-None g c =
    let e = c.in-None.ensures in
    let none = c.none.ensures.1 in record {
      step = subst (λ n. Steps g.row.FLLEN g.row.SLLEN c.allocate_zeroed.new.self (Allocates g.row.SLLEN c.args.self.now.state c.args.layout.size c.args.layout.align (reply_of n)))
          (sym none) e.step;
      result = record { at = c.none.ensures.0 ∙ sym none; made = λ some. absurd (some none) };
      room = λ count most wide sized few short fits. absurd (true≢false (sym (e.room.bounds count most wide sized few short fits)));
      bounds = e.bounds;
      refused = λ _. e.refused;
      frame = e.frame;
      touches = e.touches;
    }
