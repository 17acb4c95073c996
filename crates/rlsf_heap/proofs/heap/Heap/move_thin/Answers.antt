use Rattle.std.proofs.Common.{◌≡◌, ◌≢◌, ◌+◌, ◌%◌, ◌<◌, ◌≤◌, ℕ, List, None, length, true≢false, arith, refl, sym, ap, subst, ◌∙◌}
use Rattle.rlsf_base.specs.Piece.{Piece}
use Rattle.rlsf_model.specs.Allocate.{Allocates}
use Rattle.rlsf_model.specs.Callers.{align_at, bytes_at}
use Rattle.rlsf_model.specs.Reallocate.{Keeps}
use Rattle.rlsf_model.specs.Sized.{IsSizedFor, live_count}
use Rattle.rlsf_heap.specs.Heap.{HeapView, IsWritten, PayloadView, Steps, payload_view}
use Rattle.rlsf_heap.proofs.Found.{frame_found, settled_found, move_step, new_is_other, others_stay, Keeps-each}
use Rattle.rlsf_heap.proofs.Kept.{frame_both}
use Rattle.rlsf_heap.proofs.Tickets.{some_address}
use Rattle.rlsf_heap.proofs.heap.Heap.move_thin.Given as given
use Rattle.rlsf_heap.proofs.heap.Heap.move_thin.Goals as goal

pub as_mut_slice-requires : goal.as_mut_slice-requires
as_mut_slice-requires g c = c.in-Some.ensures.result.written (settled_found c.args.self.now c.find_part-part.new.self c.find_part-part.ensures.heap c.requires.settled)

-- the new payload is where the allocation put it
there : (g : given.Over) (c : goal.After-into_thin g) → c.into_thin.result.of.start ≡ c.in-Some.to.start
there g c = ap (λ (p : PayloadView). p.start) c.into_thin.ensures.1 ∙ (c.as_mut_slice.ensures.left c.copy_front.new.to).start

-- and has the bytes that were copied
bytes : (g : given.Over) (c : goal.After-into_thin g) → c.into_thin.result.of.bytes ≡ c.copy_front.new.to
bytes g c = ap (λ (p : PayloadView). p.bytes) c.into_thin.ensures.1 ∙ c.as_mut_slice.ensures.filled c.copy_front.new.to c.copy_front.ensures.1

-- the old payload was at its address
from : (g : given.Over) (c : goal.After-into_thin g) → c.into_thin_bytes.result.piece.start ≡ c.args.addr
from g c = ap (λ (p : Piece). p.start) c.into_thin_bytes.ensures.piece ∙ ap (λ (p : PayloadView). p.start) c.find_part-part.ensures.parts ∙ c.requires.some.0

-- they are two
other : (g : given.Over) (c : goal.After-into_thin g) → c.in-Some.to.start ≢ c.args.addr
other g c = new_is_other c.args.self.now.state c.find_part-part.new.self.state (ap (λ (v : HeapView). v.state) c.find_part-part.ensures.heap) c.args.addr
    c.in-Some.to.start c.args.payload.of.align c.find_part-part.ensures.live c.in-Some.ensures.result.new

pub returns-in_default : goal.returns-in_default
returns-in_default g c =
    let e = c.in_default.ensures in
    let heap = c.find_part-part.ensures.heap in
    let state = ap (λ (v : HeapView). v.state) heap in
    let t = c.find_part-part.ensures.ticket in
    let of_is : c.from_parts.result.of ≡ c.args.payload.of =
    c.from_parts.ensures.1 ∙ (λ i. payload_view c.find_part-part.result.0 (sym t.2 i) c.find_part-part.result.1.name) ∙ c.find_part-part.ensures.parts in
    record {
      step = subst (λ s. Steps g.row.FLLEN g.row.SLLEN c.allocate.new.self (Allocates g.row.SLLEN s c.args.layout.size c.args.layout.align None)) state e.step;
      result = tt;
      room = λ count most wide sized few short fits.
          absurd (true≢false (sym (e.room.bounds count most wide (subst (IsSizedFor g.row.SLLEN count most wide) (sym state) sized)
          (subst (λ s. live_count s ≤ count) (sym state) few) short fits)));
      bounds = record {
        sized = λ count most wide sized short fits. e.bounds count most wide (subst (IsSizedFor g.row.SLLEN count most wide) (sym state) sized) short fits;
        count = ap live_count (e.refused.same ∙ state);
      };
      refused = record {
        at = c.from_parts.ensures.0 ∙ sym c.requires.some.0 ∙ ap (λ (p : PayloadView). p.start) (sym of_is);
        of = record {
          same = of_is;
          identity = ap (λ (p : PayloadView). p.identity) of_is ∙ c.requires.heap;
          requested = ap (λ (p : PayloadView). p.align) of_is;
          unchanged = record { same = e.refused.same ∙ state; bytes = e.refused.bytes ∙ ap (λ (v : HeapView). v.memory.bytes) heap };
        };
      };
      frame = frame_found c.args.self.now c.find_part-part.new.self c.allocate.new.self heap e.frame;
      touches = omega (arith, e.touches, ap (λ (v : HeapView). v.memory.touches) heap);
    }

-- the bytes that both payloads have are copied
kept : (g : given.Over) (c : goal.After-into_thin g) → Keeps c.args.payload.of.bytes c.into_thin.result.of.bytes
kept g c =
    let old = c.as_slice.ensures ∙ ap (λ (p : PayloadView). p.bytes) c.find_part-part.ensures.parts in
    subst (λ (l : List ℕ × List ℕ). Keeps l.0 l.1) (λ i. (old i, sym (bytes g c) i)) c.copy_front.ensures.0

-- the new payload is as long as the one that was allocated
as_long : (g : given.Over) (c : goal.After-into_thin g) → length c.into_thin.result.of.bytes ≡ length c.in-Some.to.bytes
as_long g c = ap length (bytes g c) ∙ c.copy_front.ensures.1 ∙ ap length c.as_mut_slice.ensures.value

pub returns : goal.returns
returns g c =
    let a = c.in-Some.ensures in
    let p = c.put_written.ensures in
    let heap = c.find_part-part.ensures.heap in
    let state = ap (λ (v : HeapView). v.state) heap in
    let thin = c.into_thin.ensures.1 in
    let w = c.copy_front.new.to in
    let is = there g c in
    let whole : IsWritten c.into_thin.result.of = subst (λ (o : PayloadView). IsWritten o) (sym thin) ((c.as_mut_slice.ensures.left w).written) in
    record {
      step = move_step g.row.FLLEN g.row.SLLEN c.args.self.now c.find_part-part.new.self c.allocate.new.self c.put_written.new.self heap c.args.layout.size
          c.args.layout.align c.args.addr c.into_thin_bytes.result.piece.start c.in-Some.to.start (from g c) a.step p.step c.into_thin.result.of.start is;
      result = record {
        at = c.into_thin.ensures.0 ∙ ap (λ (o : PayloadView). o.start) (sym thin);
        of = record {
          resized = record {
            identity = ap (λ (o : PayloadView). o.identity) thin ∙ (c.as_mut_slice.ensures.left w).identity ∙ a.result.identity ∙ ap (λ (v : HeapView). v.identity) heap;
            requested = ap (λ (o : PayloadView). o.align) thin ∙ (c.as_mut_slice.ensures.left w).align ∙ a.result.requested;
            live = ap (align_at c.put_written.new.self.state) is ∙ p.result.aligns c.in-Some.to.start (λ e. other g c (e ∙ from g c)) ∙ a.result.live;
            long = as_long g c ∙ a.result.long ∙ ap length (sym (others_stay g.row.FLLEN g.row.SLLEN c.args.self.now c.find_part-part.new.self c.allocate.new.self
                c.put_written.new.self heap c.args.layout.size c.args.layout.align c.args.addr c.into_thin_bytes.result.piece.start c.in-Some.to.start (from g c) a.step
                p.step c.in-Some.to.start (other g c)))
                ∙ ap (λ n. length (bytes_at c.put_written.new.self.state n)) (sym is);
            aligned = subst (λ n. n % c.args.layout.align ≡ 0) (sym is) a.result.aligned;
            sized = subst (λ n. c.args.layout.size ≤ n) (sym (as_long g c)) a.result.sized;
            few = subst (λ n. n < c.args.layout.size + 32) (sym (as_long g c)) a.result.few;
            kept = kept g c;
            each = Keeps-each c.args.payload.of.bytes c.into_thin.result.of.bytes (kept g c);
            here = λ i from high. whole i from (omega (arith, high));
            shrunk = λ _. whole;
            written = λ _. whole;
          };
          written = whole;
          apart = λ e. other g c (sym is ∙ e);
          gone = subst (λ n. align_at c.put_written.new.self.state n ≡ None) (from g c) p.result.gone;
          others = record {
            some = λ e. some_address g.row.FLLEN g.row.SLLEN c.allocate.new.self c.find_part-part.new.self.state c.args.layout.size c.args.layout.align c.in-Some.to.start a.step
                (sym is ∙ e);
            new = λ _. (λ i. align_at (sym state i) (is i)) ∙ a.result.new;
            aligns = λ n apart new. p.result.aligns n (λ e. apart (e ∙ from g c)) ∙ a.result.aligns n (λ e. new (e ∙ sym is)) ∙ ap (λ (v : HeapView). align_at v.state n) heap;
          };
        };
      };
      room = λ count most wide sized few short fits. refl;
      bounds = record {
        sized = λ count most wide sized short fits. p.bounds count most wide (a.bounds count most wide (subst (IsSizedFor g.row.SLLEN count most wide) (sym state) sized)
            short fits);
        count = omega (arith, p.result.count, a.result.count, ap (λ (v : HeapView). live_count v.state) heap);
      };
      refused = tt;
      frame = frame_found c.args.self.now c.find_part-part.new.self c.put_written.new.self heap
          (frame_both c.find_part-part.new.self c.allocate.new.self c.put_written.new.self a.frame p.frame);
      touches = omega (arith, p.touches, a.touches, ap (λ (v : HeapView). v.memory.touches) heap);
    }
