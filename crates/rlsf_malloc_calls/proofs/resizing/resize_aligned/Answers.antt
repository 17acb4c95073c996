use Rattle.std.proofs.Common.{◌∙◌, ℕ, sym, subst}
use Rattle.rlsf_heap.specs.Heap.{PayloadView}
use Rattle.rlsf_malloc_calls.specs.Calls.{AllocatesPayload}
use Rattle.rlsf_malloc_calls.specs.Replies.{reply_number}
use Rattle.rlsf_malloc_calls.specs.Resizing.{Resizes, ResizesAligned}
use Rattle.rlsf_malloc_calls.proofs.resizing.resize_aligned.Goals as goal

pub returns-then-addr-eq0 : goal.returns-then-addr-eq0
returns-then-addr-eq0 g c =
    let p = c.allocate_aligned.result.of in
    let told = c.changed.ensures in
    subst (λ (x : ℕ × PayloadView). ResizesAligned g.row.SLLEN c.args.heap.now c.args.addr c.args.payload.of c.args.size c.args.align x.0 x.1 c.allocate_aligned.new.heap)
    (λ i. (sym told.0 i, sym told.1 i))
    (record {
      fresh = λ e. (
        sym c.allocate_aligned.ensures.0,
        subst (λ a. AllocatesPayload g.row.SLLEN c.args.heap.now c.args.size a p c.allocate_aligned.new.heap) c.at_least_16-align.ensures c.allocate_aligned.ensures.1,
      );
      known = λ some. absurd (some c.if-addr-eq0.true);
    })

pub returns-then-align-eq16 : goal.returns-then-align-eq16
returns-then-align-eq16 g c =
    let r = c.resize.result in record {
      fresh = λ e. absurd (c.if-addr-eq0.false e);
      known = λ some.
          subst (λ a. Resizes g.row.SLLEN c.args.heap.now c.args.payload.of c.args.size a (reply_number r) r.payload.of c.resize.new.heap)
          (sym c.if-align-eq16.true ∙ c.at_least_16-align.ensures) c.resize.ensures;
    }

pub returns : goal.returns
returns g c =
    let r = c.resize_known.result in record {
      fresh = λ e. absurd (c.if-addr-eq0.false e);
      known = λ some.
          subst (λ a. Resizes g.row.SLLEN c.args.heap.now c.args.payload.of c.args.size a (reply_number r) r.payload.of c.resize_known.new.heap) c.at_least_16-align.ensures
          c.resize_known.ensures;
    }
