use Rattle.std.proofs.Common.{◌≡◌, ◌≤◌, ℕ, false, true, Some, None, arith, refl, sym, ap, ◌∙◌}
use Rattle.rlsf_base.specs.Layout.{IsLayout}
use Rattle.rlsf_model.specs.Reallocate.{Reallocates}
use Rattle.rlsf_model.specs.Sized.{IsSizedFor, live_count}
use Rattle.rlsf_heap.specs.Heap.{HeapView, PayloadView}
use Rattle.rlsf_heap.proofs.Found.{IsFound, as_found, heap_found, raw_found, refused_found, resized_found, settled_found, sized_found, step_found}
use Rattle.rlsf_heap.specs.Replies.{IsResizedOrMoved}
use Rattle.rlsf_heap.specs.Frame.{KeepsFrameMoving}
use Rattle.rlsf_heap.proofs.heap.Heap.reallocate_thin.Goals as goal

pub returns-in-Ok : goal.returns-in-Ok
returns-in-Ok g c =
    let e = c.in-Ok.ensures in
    let f : IsFound c.args.self.now c.find_payload-payload.new.self c.args.payload.of c.find_payload-payload.result c.args.addr c.args.align =
    record { heap = c.find_payload-payload.ensures.heap; same = c.find_payload-payload.ensures.payload; at = c.requires.some.0; wide = c.requires.some.2 } in
    let thin = c.into_thin.ensures.1 in
    let new = c.reallocate.new.self in
    let as_now = as_found f c.in-Ok.payload c.into_thin.result.of thin in
    let moved = as_now (λ v from addr align to. IsResizedOrMoved v new addr c.args.size align from to) e.result in
    let framed = as_now (λ v from addr align to. KeepsFrameMoving v new addr c.args.size from) e.frame in
    record {
      step = step_found f g.row.FLLEN g.row.SLLEN new c.args.size (λ s addr to t. Reallocates g.row.SLLEN s addr c.args.size to t) (Some c.in-Ok.payload.start)
          (Some c.into_thin.result.of.start) (ap (λ (o : PayloadView). Some o.start) (sym thin)) e.step;
      result = record {
        at = c.into_thin.ensures.0 ∙ ap (λ (o : PayloadView). o.start) (sym thin);
        of = record {
          layout = moved.layout;
          resized = resized_found f c.args.size new c.in-Ok.payload c.into_thin.result.of thin e.result.resized;
          some = moved.some;
          new = moved.new;
          aligns = moved.aligns;
        };
      };
      room = λ count most wide sized few short fits is. refl;
      bounds = sized_found f g.row.SLLEN c.args.size new e.bounds;
      refused = tt;
      frame = record {
        heap = heap_found c.args.self.now c.find_payload-payload.new.self new f.heap e.frame.heap;
        raw = raw_found c.args.self.now c.find_payload-payload.new.self new f.heap e.frame.raw;
        settled = λ settled. e.frame.settled (settled_found c.args.self.now c.find_payload-payload.new.self f.heap settled);
        chunks = e.frame.chunks ∙ ap (λ (v : HeapView). v.state.chunks) f.heap;
        copied = framed.copied;
        grow_copied = framed.grow_copied;
        stays = framed.stays;
      };
      touches = omega (arith, e.touches, ap (λ (v : HeapView). v.memory.touches) f.heap);
    }

pub returns-in-Err : goal.returns-in-Err
returns-in-Err g c =
    let e = c.in-Err.ensures in
    let f : IsFound c.args.self.now c.find_payload-payload.new.self c.args.payload.of c.find_payload-payload.result c.args.addr c.args.align =
    record { heap = c.find_payload-payload.ensures.heap; same = c.find_payload-payload.ensures.payload; at = c.requires.some.0; wide = c.requires.some.2 } in
    let thin = c.into_thin-in-Err.ensures.1 in
    let new = c.reallocate.new.self in
    let as_now = as_found f c.in-Err.payload c.into_thin-in-Err.result.of thin in
    let framed = as_now (λ v from addr align to. KeepsFrameMoving v new addr c.args.size from) e.frame in
    record {
      step = step_found f g.row.FLLEN g.row.SLLEN new c.args.size (λ s addr to t. Reallocates g.row.SLLEN s addr c.args.size to t) None None refl e.step;
      result = tt;
      room = as_now (λ v from addr align to. (count most wide : ℕ) → IsSizedFor g.row.SLLEN count most wide v.state → live_count v.state ≤ count → c.args.size ≤ most
          → align ≤ wide → IsLayout c.args.size align → false ≡ true) e.room;
      bounds = sized_found f g.row.SLLEN c.args.size new e.bounds;
      refused = record {
        at = c.into_thin-in-Err.ensures.0 ∙ ap (λ (o : PayloadView). o.start) (sym thin);
        of = refused_found f new c.in-Err.payload c.into_thin-in-Err.result.of thin e.refused;
      };
      frame = record {
        heap = heap_found c.args.self.now c.find_payload-payload.new.self new f.heap e.frame.heap;
        raw = raw_found c.args.self.now c.find_payload-payload.new.self new f.heap e.frame.raw;
        settled = λ settled. e.frame.settled (settled_found c.args.self.now c.find_payload-payload.new.self f.heap settled);
        chunks = e.frame.chunks ∙ ap (λ (v : HeapView). v.state.chunks) f.heap;
        copied = framed.copied;
        grow_copied = framed.grow_copied;
        stays = framed.stays;
      };
      touches = omega (arith, e.touches, ap (λ (v : HeapView). v.memory.touches) f.heap);
    }
