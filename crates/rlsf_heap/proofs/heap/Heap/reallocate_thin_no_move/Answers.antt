use Rattle.std.proofs.Common.{◌≡◌, Some, None, arith, refl, sym, ap, ◌∙◌}
use Rattle.rlsf_base.specs.Layout.{IsLayout}
use Rattle.rlsf_model.specs.Callers.{align_at}
use Rattle.rlsf_model.specs.NoMove.{ReallocatesWithoutMove}
use Rattle.rlsf_heap.specs.Heap.{HeapView, PayloadView}
use Rattle.rlsf_heap.proofs.Found.{IsFound, as_found, frame_found, refused_found, resized_found, sized_found, step_found}
use Rattle.rlsf_heap.proofs.heap.Heap.reallocate_thin_no_move.Goals as goal

pub returns-in-Ok : goal.returns-in-Ok
returns-in-Ok g c =
    let e = c.in-Ok.ensures in
    let f : IsFound c.args.self.now c.find_payload-payload.new.self c.args.payload.of c.find_payload-payload.result c.args.addr c.args.align =
    record { heap = c.find_payload-payload.ensures.heap; same = c.find_payload-payload.ensures.payload; at = c.requires.some.0; wide = c.requires.some.2 } in
    let thin = c.into_thin.ensures.1 in
    let new = c.reallocate_no_move.new.self in
    let as_now = as_found f c.in-Ok.payload c.into_thin.result.of thin in
    record {
      step = step_found f g.row.FLLEN g.row.SLLEN new c.args.size (λ s addr to t. ReallocatesWithoutMove s addr c.args.size to t) (Some c.in-Ok.payload.start)
          (Some c.into_thin.result.of.start) (ap (λ (o : PayloadView). Some o.start) (sym thin)) e.step;
      result = record {
        at = c.into_thin.ensures.0 ∙ ap (λ (o : PayloadView). o.start) (sym thin);
        of = record {
          layout = as_now (λ v from addr align to. IsLayout c.args.size align) e.result.layout;
          resized = resized_found f c.args.size new c.in-Ok.payload c.into_thin.result.of thin e.result.resized;
          start = as_now (λ v from addr align to. to.start ≡ addr) e.result.start;
          aligns = e.result.aligns ∙ ap (λ (v : HeapView). align_at v.state) f.heap;
        };
      };
      bounds = sized_found f g.row.SLLEN c.args.size new e.bounds;
      refused = tt;
      frame = frame_found c.args.self.now c.find_payload-payload.new.self new f.heap e.frame;
      touches = omega (arith, e.touches, ap (λ (v : HeapView). v.memory.touches) f.heap);
    }

pub returns-in-Err : goal.returns-in-Err
returns-in-Err g c =
    let e = c.in-Err.ensures in
    let f : IsFound c.args.self.now c.find_payload-payload.new.self c.args.payload.of c.find_payload-payload.result c.args.addr c.args.align =
    record { heap = c.find_payload-payload.ensures.heap; same = c.find_payload-payload.ensures.payload; at = c.requires.some.0; wide = c.requires.some.2 } in
    let thin = c.into_thin-in-Err.ensures.1 in
    let new = c.reallocate_no_move.new.self in
    record {
      step = step_found f g.row.FLLEN g.row.SLLEN new c.args.size (λ s addr to t. ReallocatesWithoutMove s addr c.args.size to t) None None refl e.step;
      result = tt;
      bounds = sized_found f g.row.SLLEN c.args.size new e.bounds;
      refused = record {
        at = c.into_thin-in-Err.ensures.0 ∙ ap (λ (o : PayloadView). o.start) (sym thin);
        of = refused_found f new c.in-Err.payload c.into_thin-in-Err.result.of thin e.refused;
      };
      frame = frame_found c.args.self.now c.find_payload-payload.new.self new f.heap e.frame;
      touches = omega (arith, e.touches, ap (λ (v : HeapView). v.memory.touches) f.heap);
    }
