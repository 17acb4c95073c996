use Rattle.std.proofs.Common.{ℕ, arith, Some, None, true≢false, refl, sym, subst, ◌∙◌}
use Rattle.rlsf_model.specs.NoMove.{ReallocatesWithoutMove}
use Rattle.rlsf_model.specs.State.{filled}
use Rattle.rlsf_heap.specs.Heap.{PayloadView}
use Rattle.rlsf_heap.specs.Replies.{IsResized}
use Rattle.rlsf_heap.specs.ThinReplies.{LeavesOthers}
use Rattle.rlsf_malloc_calls.specs.Resizing.{ResizesThere}
use Rattle.rlsf_malloc_calls.proofs.Outcomes.{kept_heap, itself_heap, step_of}
use Rattle.rlsf_malloc_calls.proofs.Reallocated.{is_refused, is_resized, not_resized_there, resized_there, unchanged}
use Rattle.rlsf_malloc_calls.proofs.resizing.resize_there.Goals as goal

pub returns-in-Ok-resize_thin_unknown_align : goal.returns-in-Ok-resize_thin_unknown_align
returns-in-Ok-resize_thin_unknown_align g c =
    let (ready, is, some, known) = c.requires in
    let old = c.args.heap.now in let new = c.resize_thin_unknown_align.new.self in let p = c.args.payload.of in
    let did = c.in-Ok-resize_thin_unknown_align.ensures in
    let r = c.in-Ok-resize_thin_unknown_align.payload in let addr = c.args.addr in let size = c.args.size in
    let same = kept_heap did.frame.heap did.frame.settled ready in
    let has = did.result.of in let layout = c.in-Ok.layout in let shape = c.in-Ok.ensures.layout in
    let step : ReallocatesWithoutMove (filled old.state p.start p.bytes) addr size (Some r.of.start) new.state =
    subst (λ s. ReallocatesWithoutMove (filled old.state p.start p.bytes) addr s (Some r.of.start) new.state) shape.0
    (step_of g.row.FLLEN g.row.SLLEN new (λ t. ReallocatesWithoutMove (filled old.state p.start p.bytes) addr layout.size (Some r.of.start) t) did.step) in
    let made : IsResized old new size p.align p r.of = subst (λ s. IsResized old new s p.align p r.of) shape.0 has.resized in
    let others : LeavesOthers old.state new.state addr r.of.start =
    record { some = λ e. some (sym has.start ∙ e); new = λ off. absurd (off has.start); aligns = λ a off off_new i. has.aligns i a } in
    let told = c.changed.ensures in
    subst (λ (x : ℕ × PayloadView). ResizesThere old p size x.0 x.1 new) (λ i. (sym told.0 i, sym told.1 i))
    (resized_there old new same p addr is.start some size r.of r.addr did.result.at has.start (c.in-Ok.ensures.succeeds.0 refl) step
    (is_resized old new same p addr is.start some size p.align r.of made (has.resized.written ready) others
    (λ off. absurd (off has.start))) did.bounds.count)

pub returns-in-Err : goal.returns-in-Err
returns-in-Err g c =
    let (ready, is, some, known) = c.requires in
    let old = c.args.heap.now in let new = c.resize_thin_unknown_align.new.self in let p = c.args.payload.of in let did = c.in-Err.ensures in
    let r = c.in-Err.payload in let addr = c.args.addr in let size = c.args.size in let same = kept_heap did.frame.heap did.frame.settled ready in
    let has = did.refused.of.refused in let layout = c.in-Ok.layout in let shape = c.in-Ok.ensures.layout in
    let step : ReallocatesWithoutMove (filled old.state p.start p.bytes) addr size None new.state =
    subst (λ s. ReallocatesWithoutMove (filled old.state p.start p.bytes) addr s None new.state) shape.0
    (step_of g.row.FLLEN g.row.SLLEN new (λ t. ReallocatesWithoutMove (filled old.state p.start p.bytes) addr layout.size None t) did.step) in
    not_resized_there old new same p addr is.start some size r.of has.start step (λ long. absurd (true≢false (sym (did.room.enough (omega (arith, long, shape.0))))))
    (is_refused old new same p addr is.start some size p.align r.of (is.heap some) refl has) did.bounds.count

pub returns-in_default : goal.returns-in_default
returns-in_default g c =
    let (ready, is, some, known) = c.requires in let old = c.args.heap.now in let p = c.args.payload.of in
    record {
      stays = λ layout long. absurd (true≢false (sym (c.in_default.ensures.succeeds.1 layout)));
      there = refl;
      at = λ moved. absurd (moved refl);
      no_layout = λ never. refl;
      step = λ layout. absurd (true≢false (sym (c.in_default.ensures.succeeds.1 layout)));
      heap = itself_heap old ready;
      resized = λ moved. absurd (moved refl);
      refused = λ e. unchanged old p (is.written some);
      count = refl;
    }
