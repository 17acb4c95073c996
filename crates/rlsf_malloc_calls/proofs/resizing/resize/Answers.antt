use Rattle.std.proofs.Common.{ℕ, Some, None, subst, sym}
use Rattle.rlsf_model.specs.State.{filled}
use Rattle.rlsf_heap.specs.Heap.{PayloadView}
use Rattle.rlsf_malloc_calls.specs.Resizing.{Resizes}
use Rattle.rlsf_base.specs.Layout.{IsLayout}
use Rattle.rlsf_model.specs.Reallocate.{Reallocates}
use Rattle.rlsf_malloc_calls.proofs.Moved.{gone_where_moved}
use Rattle.rlsf_malloc_calls.proofs.Outcomes.{kept_heap, step_of}
use Rattle.rlsf_malloc_calls.proofs.Reallocated.{is_refused, is_resized, not_resized, resized}
use Rattle.rlsf_malloc_calls.proofs.resizing.resize.Goals as goal

pub returns-in-Ok : goal.returns-in-Ok
returns-in-Ok g c =
    let (ready, is, some, known, align) = c.requires in
    let sllen = g.row.SLLEN in let old = c.args.heap.now in let new = c.reallocate_thin.new.self in let p = c.args.payload.of in let did = c.in-Ok.ensures in
    let r = c.in-Ok.payload in let addr = c.args.addr in let size = c.args.size in let same = kept_heap did.frame.heap did.frame.settled ready in
    let has = did.result.of in
    let step = step_of g.row.FLLEN sllen new (λ t. IsLayout size c.args.align → Reallocates sllen (filled old.state p.start p.bytes) addr size (Some r.of.start) t) did.step in
    let told = c.changed.ensures in
    subst (λ (x : ℕ × PayloadView). Resizes sllen old p size c.args.align x.0 x.1 new) (λ i. (sym told.0 i, sym told.1 i))
    (resized old new same p addr is.start some size sllen c.args.align r.of r.addr did.result.at has.some has.layout step
    (is_resized old new same p addr is.start some size c.args.align r.of has.resized (has.resized.written ready)
    (record { some = has.some; new = has.new; aligns = has.aligns })
    (λ off. gone_where_moved sllen (filled old.state p.start p.bytes) new.state addr size r.of.start off (step has.layout))) did.bounds.count)

pub returns-in-Err : goal.returns-in-Err
returns-in-Err g c =
    let (ready, is, some, known, align) = c.requires in
    let sllen = g.row.SLLEN in let old = c.args.heap.now in let new = c.reallocate_thin.new.self in let p = c.args.payload.of in let did = c.in-Err.ensures in
    let r = c.in-Err.payload in let addr = c.args.addr in let size = c.args.size in let same = kept_heap did.frame.heap did.frame.settled ready in
    let step = step_of g.row.FLLEN sllen new (λ t. IsLayout size c.args.align → Reallocates sllen (filled old.state p.start p.bytes) addr size None t) did.step in
    not_resized old new same p addr is.start some size sllen c.args.align r.of step
    (is_refused old new same p addr is.start some size c.args.align r.of (is.heap some) align did.refused.of) did.bounds.count
