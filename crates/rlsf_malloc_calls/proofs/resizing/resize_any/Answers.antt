use Rattle.std.proofs.Common.{◌≡◌, ℕ, Some, arith, rules, true≢false, sym, ap, subst, ◌∙◌}
use Rattle.rlsf_model.specs.Callers.{align_at}
use Rattle.rlsf_heap.specs.Heap.{HeapView, PayloadView}
use Rattle.rlsf_malloc_calls.specs.Calls.{IsLiveAligned}
use Rattle.rlsf_malloc_calls.specs.Replies.{reply_number}
use Rattle.rlsf_malloc_calls.specs.Resizing.{Resizes, ResizesAny, ResizesWide}
use Rattle.rlsf_malloc_calls.proofs.Outcomes.{some-same}
use Rattle.rlsf_malloc_calls.proofs.resizing.resize_any.Goals as goal

pub is_narrow-requires : goal.is_narrow-requires
is_narrow-requires g c =
    let did = c.usable_thin-payload.ensures in
    let live : IsLiveAligned c.args.heap.now c.args.addr =
    (c.args.payload.of.align, did.live, c.requires.3 (λ e. omega (arith, c.if-addr-eq0.false, e))) in
    (search rules, subst (λ (v : HeapView). IsLiveAligned v c.args.addr) (sym did.same) live)

pub returns-then-addr-eq0 : goal.returns-then-addr-eq0
returns-then-addr-eq0 g c =
    let told = c.changed.ensures in
    subst (λ (x : ℕ × PayloadView). ResizesAny g.row.SLLEN c.args.heap.now c.args.addr c.args.payload.of c.args.size x.0 x.1 c.allocate_aligned.new.heap)
    (λ i. (sym told.0 i, sym told.1 i))
    (record {
      fresh = λ e. (sym c.allocate_aligned.ensures.0, c.allocate_aligned.ensures.1);
      narrow = λ some e. absurd (some c.if-addr-eq0.true);
      wide = λ some e. absurd (some c.if-addr-eq0.true);
    })

pub returns-then-is_narrow : goal.returns-then-is_narrow
returns-then-is_narrow g c =
    let did = c.usable_thin-payload.ensures in let r = c.resize.result in let new = c.resize.new.heap in
    let narrow : align_at c.args.heap.now.state c.args.addr ≡ Some 16 =
    sym (ap (λ (v : HeapView). align_at v.state c.args.addr) did.same) ∙ c.is_narrow.ensures.0 c.if-is_narrow.true in
    record {
      fresh = λ e. absurd (c.if-addr-eq0.false e);
      narrow = λ some e. subst (λ (u : HeapView × PayloadView). Resizes g.row.SLLEN u.0 u.1 c.args.size 16 (reply_number r) r.payload.of new)
          (λ i. (did.same i, did.payload.1 i)) c.resize.ensures;
      wide = λ some wide. absurd (omega (arith, wide, some-same (sym narrow ∙ did.live)));
    }

pub returns-else-is_narrow : goal.returns-else-is_narrow
returns-else-is_narrow g c =
    let did = c.usable_thin-payload.ensures in let r = c.resize_wide.result in let new = c.resize_wide.new.heap in
    let state = ap (λ (v : HeapView). align_at v.state c.args.addr) did.same in
    record {
      fresh = λ e. absurd (c.if-addr-eq0.false e);
      narrow = λ some e. absurd (true≢false (sym (c.is_narrow.ensures.1 (state ∙ did.live ∙ ap (λ n. Some n) e)) ∙ c.if-is_narrow.false));
      wide = λ some wide. subst (λ (u : HeapView × PayloadView). ResizesWide g.row.SLLEN u.0 u.1 c.args.size (reply_number r) r.payload.of new)
          (λ i. (did.same i, did.payload.1 i)) c.resize_wide.ensures;
    }
