use Rattle.std.proofs.Common.{ℕ, arith, Some, None, true≢false, refl, sym, subst, ◌∙◌}
use Rattle.rlsf_model.specs.State.{filled}
use Rattle.rlsf_heap.specs.Heap.{PayloadView}
use Rattle.rlsf_heap.specs.Replies.{IsResized}
use Rattle.rlsf_heap.specs.ThinUnknownAlign.{StaysOrMoves}
use Rattle.rlsf_malloc_calls.specs.Resizing.{ResizesWide}
use Rattle.rlsf_malloc_calls.proofs.Outcomes.{kept_heap, itself_heap, step_of}
use Rattle.rlsf_malloc_calls.proofs.Reallocated.{is_refused, is_resized, not_resized_wide, resized_wide, unchanged}
use Rattle.rlsf_malloc_calls.proofs.resizing.resize_wide.Goals as goal

pub returns-in-Ok-reallocate_thin_unknown_align : goal.returns-in-Ok-reallocate_thin_unknown_align
returns-in-Ok-reallocate_thin_unknown_align g c =
    let (ready, is, some, known) = c.requires in
    let sllen = g.row.SLLEN in let old = c.args.heap.now in let new = c.reallocate_thin_unknown_align.new.self in let p = c.args.payload.of in
    let did = c.in-Ok-reallocate_thin_unknown_align.ensures in
    let r = c.in-Ok-reallocate_thin_unknown_align.payload in let addr = c.args.addr in let size = c.args.size in
    let same = kept_heap did.frame.heap did.frame.settled ready in
    let has = did.result.of in let layout = c.in-Ok.layout in let shape = c.in-Ok.ensures.layout in
    let step : StaysOrMoves sllen (filled old.state p.start p.bytes) addr size 16 (Some r.of.start) new.state =
    subst (λ s. StaysOrMoves sllen (filled old.state p.start p.bytes) addr s 16 (Some r.of.start) new.state) shape.0
    (subst (λ a. StaysOrMoves sllen (filled old.state p.start p.bytes) addr layout.size a (Some r.of.start) new.state) shape.1
    (step_of g.row.FLLEN sllen new (λ t. StaysOrMoves sllen (filled old.state p.start p.bytes) addr layout.size layout.align (Some r.of.start) t) did.step)) in
    let made : IsResized old new size r.of.align p r.of = subst (λ s. IsResized old new s r.of.align p r.of) shape.0 has.resized in
    let told = c.changed.ensures in
    subst (λ (x : ℕ × PayloadView). ResizesWide sllen old p size x.0 x.1 new) (λ i. (sym told.0 i, sym told.1 i))
    (resized_wide old new same p addr is.start some size sllen r.of r.addr did.result.at has.others.some (c.in-Ok.ensures.succeeds.0 refl) step
    (λ long. did.room.there.enough (omega (arith, long, shape.0))) has.there (λ apart. has.moved apart ∙ shape.1)
    (is_resized old new same p addr is.start some size r.of.align r.of made has.written has.others has.gone) did.bounds.count)

pub returns-in-Err : goal.returns-in-Err
returns-in-Err g c =
    let (ready, is, some, known) = c.requires in
    let sllen = g.row.SLLEN in let old = c.args.heap.now in let new = c.reallocate_thin_unknown_align.new.self in let p = c.args.payload.of in
    let did = c.in-Err.ensures in
    let r = c.in-Err.payload in let addr = c.args.addr in let size = c.args.size in let same = kept_heap did.frame.heap did.frame.settled ready in
    let layout = c.in-Ok.layout in let shape = c.in-Ok.ensures.layout in
    let step : StaysOrMoves sllen (filled old.state p.start p.bytes) addr size 16 None new.state =
    subst (λ s. StaysOrMoves sllen (filled old.state p.start p.bytes) addr s 16 None new.state) shape.0
    (subst (λ a. StaysOrMoves sllen (filled old.state p.start p.bytes) addr layout.size a None new.state) shape.1
    (step_of g.row.FLLEN sllen new (λ t. StaysOrMoves sllen (filled old.state p.start p.bytes) addr layout.size layout.align None t) did.step)) in
    not_resized_wide old new same p addr is.start some size sllen r.of step (λ long. did.room.there.enough (omega (arith, long, shape.0)))
    (is_refused old new same p addr is.start some size p.align r.of (is.heap some) refl did.refused.of.refused) did.bounds.count

pub returns-in_default : goal.returns-in_default
returns-in_default g c =
    let (ready, is, some, known) = c.requires in let old = c.args.heap.now in let p = c.args.payload.of in
    record {
      stays = λ layout long. absurd (true≢false (sym (c.in_default.ensures.succeeds.1 layout)));
      no_layout = λ never. refl;
      step = λ layout. absurd (true≢false (sym (c.in_default.ensures.succeeds.1 layout)));
      heap = itself_heap old ready;
      at = λ moved. absurd (moved refl);
      there = λ e. refl;
      moved = λ moved. absurd (moved refl);
      resized = λ moved. absurd (moved refl);
      refused = λ e. unchanged old p (is.written some);
      count = refl;
    }
