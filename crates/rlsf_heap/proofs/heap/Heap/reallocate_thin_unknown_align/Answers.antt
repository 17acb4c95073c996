use Rattle.std.proofs.Common.{◌≤◌, arith, true≢false, refl, sym, ap, subst, ◌∙◌}
use Rattle.rlsf_model.specs.Callers.{align_at}
use Rattle.rlsf_model.specs.State.{AreAlike, filled}
use Rattle.rlsf_heap.specs.Heap.{IsWritten, PayloadView}
use Rattle.rlsf_heap.specs.Kept.{KeepsBytesBeside}
use Rattle.rlsf_heap.specs.Replies.{IsResized}
use Rattle.rlsf_heap.specs.ThinReplies.{thin_moved_to}
use Rattle.rlsf_heap.proofs.Kept.{frame_both, same-byte}
use Rattle.rlsf_heap.proofs.Found.{if_err, if_ok, resized_as, step_moves, step_stays}
use Rattle.rlsf_heap.proofs.heap.Heap.reallocate_thin_unknown_align.Goals as goal

pub returns-in-Ok : goal.returns-in-Ok
returns-in-Ok g c =
    let e = c.in-Ok.ensures in
    let there = e.result.of in
    let new = c.resize_thin_unknown_align.new.self in
    let p = c.in-Ok.payload in
    let pay = c.args.payload.of in
    let layout = c.args.layout in
    record {
      step = step_stays g.row.SLLEN (filled c.args.self.now.state pay.start pay.bytes) c.args.addr layout.size layout.align g.row.FLLEN new p.of.start e.step;
      result = record {
        at = e.result.at;
        of = record {
          resized = subst (λ a. IsResized c.args.self.now new layout.size a pay p.of) (sym there.resized.requested) there.resized;
          written = there.resized.written c.requires.settled;
          others = record {
            some = λ none. c.requires.some.1 (sym there.start ∙ none);
            new = λ apart. absurd (apart there.start);
            aligns = λ a off off_to i. there.aligns i a;
          };
          there = λ _. there.resized.requested;
          moved = λ apart. absurd (apart there.start);
          gone = λ apart. absurd (apart there.start);
          live = there.live;
        };
      };
      room = record { fits = λ count most wide sized few short fits. refl; there = record { enough = λ long. there.start; stays = λ room. there.start } };
      bounds = record { sized = λ count most wide sized own short fits. e.bounds.sized count most wide sized short own; count = e.bounds.count };
      refused = tt;
      frame = e.frame;
      touches = omega (arith, e.touches);
    }

pub returns-in-Err : goal.returns-in-Err
unfolding KeepsBytesBeside
returns-in-Err g c =
    let e = c.in-Err.ensures in
    let f = c.move_thin.ensures in
    let r = c.move_thin.result in
    let old = c.args.self.now in
    let mid = c.resize_thin_unknown_align.new.self in
    let new = c.move_thin.new.self in
    let pay = c.args.payload.of in
    let size = c.args.layout.size in
    let align = c.args.layout.align in
    let u = e.refused.of in
    let was = u.refused in
    record {
      step = step_moves g.row.SLLEN (filled old.state pay.start pay.bytes) c.args.addr size align g.row.FLLEN new mid (thin_moved_to r) e.step f.step;
      result = if_ok r (λ q is. record {
        at = is.at;
        of = record {
          resized = resized_as old mid new c.in-Err.payload.of pay q.of size align e.frame.heap.identity was.bytes is.of.written is.of.resized;
          written = is.of.written;
          others = record {
            some = is.of.others.some;
            new = λ off. (λ i. sym was.aligns i q.of.start) ∙ is.of.others.new off;
            aligns = λ a off off_to. is.of.others.aligns a off off_to ∙ (λ i. was.aligns i a);
          };
          there = λ same. absurd (is.of.apart same);
          moved = λ _. is.of.resized.requested;
          gone = λ _. is.of.gone;
          live = u.live;
        };
      }) f.result;
      room = record {
        fits = λ count most wide sized few short fits. f.room count most wide (u.sized count most wide sized) (subst (λ n. n ≤ count) (sym e.bounds.count) few) short fits;
        there = record { enough = λ long. absurd (true≢false (sym (e.room.enough long))); stays = λ room. absurd (true≢false (sym (e.room.stays room))) };
      };
      bounds = record {
        sized = λ count most wide sized own short fits. f.bounds.sized count most wide (u.sized count most wide sized) short fits;
        count = f.bounds.count ∙ e.bounds.count;
      };
      refused = if_err r (λ q is. record {
        at = is.at;
        of = record {
          refused = record {
            identity = is.of.identity ∙ e.frame.heap.identity;
            requested = is.of.requested ∙ was.requested;
            start = ap (λ (o : PayloadView). o.start) is.of.same ∙ was.start;
            bytes = ap (λ (o : PayloadView). o.bytes) is.of.same ∙ was.bytes;
            written = subst (λ (o : PayloadView). IsWritten o) (sym is.of.same) was.written;
            alike = subst (AreAlike old.state) (sym is.of.unchanged.same) was.alike;
            aligns = ap align_at is.of.unchanged.same ∙ was.aligns;
            unchanged = λ a from to side. same-byte mid.memory new.memory f.frame.heap.place.0 is.of.unchanged.bytes a ∙ was.unchanged a from to side;
          };
          live = u.live;
        };
      }) f.refused;
      frame = frame_both old mid new e.frame f.frame;
      touches = omega (arith, u.touches, f.touches);
    }
