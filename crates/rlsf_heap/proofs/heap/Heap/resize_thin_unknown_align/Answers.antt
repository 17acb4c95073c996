use Rattle.std.proofs.Common.{◌≡◌, refl, arith, sym, ap, subst, ◌∙◌}
use Rattle.rlsf_model.specs.Callers.{align_at}
use Rattle.rlsf_heap.specs.Frame.{KeepsAllBounds, KeepsFrame}
use Rattle.rlsf_heap.specs.Heap.{HeapView, PayloadView, payload_view}
use Rattle.rlsf_heap.proofs.Found.{IsFound, as_found, frame_found, refused_found, resized_found}
use Rattle.rlsf_heap.proofs.heap.Heap.resize_thin_unknown_align.Given as given
use Rattle.rlsf_heap.proofs.heap.Heap.resize_thin_unknown_align.Goals as goal
use Rattle.rlsf_heap.proofs.heap.Heap.resize_thin_unknown_align.Goals.{After-resize_part-done}

-- its length was found, and then it has its part and its ticket
found : (g : given.Over) (c : After-resize_part-done g) → IsFound c.args.self.now c.find_part-part.new.self c.args.payload.of
    (payload_view c.find_part-part.result.0 c.find_part-part.result.1.align c.find_part-part.result.1.name) c.args.addr c.args.payload.of.align
found g c =
    let e = c.find_part-part.ensures in
    let r = c.find_part-part.result in
    record { heap = e.heap; same = (λ i. payload_view r.0 (sym e.ticket.2 i) r.1.name) ∙ e.parts; at = c.requires.some.0; wide = refl }

framed : (g : given.Over) (c : After-resize_part-done g) → KeepsFrame c.args.self.now c.resize_part-done.new.self
framed g c = frame_found c.args.self.now c.find_part-part.new.self c.resize_part-done.new.self c.find_part-part.ensures.heap c.resize_part-done.ensures.frame

pub returns-then-not-done-clause-refused : goal.returns-then-not-done-clause-refused
returns-then-not-done-clause-refused g c =
    let f = found g (goal.at.returns-then-not-done-clause-refused g c).After-resize_part-done in
    let new = c.resize_part-done.new.self in
    let r = c.resize_part-done.result in
    let e = c.resize_part-done.ensures in
    let no = c.if-not-done.true in
    let thin = c.from_parts-payload.ensures.1 in record {
      at = c.from_parts-payload.ensures.0 ∙ sym (e.place.0 ∙ ap (λ (o : PayloadView). o.start) (f.same) ∙ f.at) ∙ ap (λ (o : PayloadView). o.start) (sym thin);
      of = record {
        refused = refused_found f new (payload_view r.1 r.2.align r.2.name) c.from_parts-payload.result.of thin (e.refused no);
        live = c.find_part-part.ensures.live;
        sized = subst (λ (v : HeapView). KeepsAllBounds g.row.SLLEN v.state new.state) f.heap (e.kept no).0;
        touches = omega (arith, (e.kept no).1, ap (λ (v : HeapView). v.memory.touches) f.heap);
      };
    }

pub returns-then-not-done-clause-frame : goal.returns-then-not-done-clause-frame
returns-then-not-done-clause-frame g c = framed g (goal.at.returns-then-not-done-clause-frame g c).After-resize_part-done

pub returns-clause-result : goal.returns-clause-result
returns-clause-result g c =
    let f = found g (goal.at.returns-clause-result g c).After-resize_part-done in
    let r = c.resize_part-done.result in
    let e = c.resize_part-done.ensures in
    let is = e.result c.if-not-done.false in
    let made = payload_view r.1 r.2.align r.2.name in
    let thin = c.from_parts-payload.ensures.1 in record {
      at = c.from_parts-payload.ensures.0 ∙ sym (e.place.0 ∙ ap (λ (o : PayloadView). o.start) (f.same) ∙ f.at) ∙ ap (λ (o : PayloadView). o.start) (sym thin);
      of = record {
        resized = resized_found f c.args.layout.size c.resize_part-done.new.self made c.from_parts-payload.result.of thin is.resized;
        start = as_found f made c.from_parts-payload.result.of thin (λ v from addr align to. to.start ≡ addr) is.start;
        live = c.find_part-part.ensures.live;
        aligns = is.aligns ∙ ap (λ (v : HeapView). align_at v.state) f.heap;
      };
    }

pub returns-clause-frame : goal.returns-clause-frame
returns-clause-frame g c = framed g (goal.at.returns-clause-frame g c).After-resize_part-done
