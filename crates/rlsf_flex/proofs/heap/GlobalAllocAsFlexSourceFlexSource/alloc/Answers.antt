use Rattle.std.proofs.Common.{◌≡◌, ◌∙◌, ◌∷◌, None, Some, map, max, ap, inl, inr, refl, subst, sym}
use Rattle.std.proofs.lemmas.Bool.{false≢true}
use Rattle.std.specs.Int.{next_multiple_of}
use Rattle.std.specs.Int.NonZero.{non_zero_usize_get}
use Rattle.rlsf_base.specs.declared.memory.range.Range.{Range}
use Rattle.rlsf_base.specs.Layout.{IsLayout}
use Rattle.rlsf_base.specs.Range.{range_at}
use Rattle.rlsf_flex.proofs.Heaps.{Allocation-equal, HeapOwes-more, asked_for}
use Rattle.rlsf_flex.specs.Heap.{Allocation, allocate, allocation_at, allocation_of, IsAllocationIn}
use Rattle.rlsf_flex.proofs.heap.GlobalAllocAsFlexSourceFlexSource.alloc.Goals as goal

pub returns-in-Err : goal.returns-in-Err
returns-in-Err g c = record {
  leads = inl ((λ valid. false≢true (c.in-Err.ensures.succeeds.1 (subst (IsLayout c.args.min_size) (sym c.max.ensures) valid))), refl);
  owes = λ owed h. h;
}

pub returns-in_err-addr-in-Ok : goal.returns-in_err-addr-in-Ok
returns-in_err-addr-in-Ok g c =
    let align = max g.row.ALIGN 32 in
    let layout = c.pad_to_align-layout in
    let (same_size, same_align) = c.in-Ok.ensures.layout in
    let aligned : layout.result.align ≡ align = layout.ensures.align ∙ same_align ∙ c.max.ensures in
    let long : layout.result.size ≡ next_multiple_of c.args.min_size align =
    layout.ensures.size ∙ ap (λ n. next_multiple_of n c.in-Ok.least.align) same_size ∙ ap (next_multiple_of c.args.min_size) (same_align ∙ c.max.ensures) in
    rw c.from_residual.ensures (record {
      leads =
          inr (
            subst (IsLayout c.args.min_size) c.max.ensures (c.in-Ok.ensures.succeeds.0 refl),
            asked_for g.T.GlobalAlloc.leads c.args.self.now.0 c.alloc.new.self None long aligned c.in_err-addr-in-Ok.ensures.leads,
          );
      owes = λ owed h. record { allocations = c.in_err-addr-in-Ok.ensures.owes (map (allocation_of align) owed) h.allocations; layouts = h.layouts };
    })

pub returns-in_ok-addr-in-Ok : goal.returns-in_ok-addr-in-Ok
returns-in_ok-addr-in-Ok g c =
    let align = max g.row.ALIGN 32 in
    let space = g.T.GlobalAlloc.space c.args.self.now.0 in
    let layout = c.pad_to_align-layout in
    let size = c.size.result in
    let r : Range = range_at c.get.result size in
    let (same_size, same_align) = c.in-Ok.ensures.layout in
    let aligned : layout.result.align ≡ align = layout.ensures.align ∙ same_align ∙ c.max.ensures in
    let long : size ≡ next_multiple_of c.args.min_size align =
    c.size.ensures.value ∙ layout.ensures.size ∙ ap (λ n. next_multiple_of n c.in-Ok.least.align) same_size
    ∙ ap (next_multiple_of c.args.min_size) (same_align ∙ c.max.ensures) in
    let valid : IsLayout size align = subst (IsLayout size) aligned (subst (λ n. IsLayout n layout.result.align) (sym c.size.ensures.value) c.size.ensures.valid) in
    let answered : Allocation = allocation_at (non_zero_usize_get c.in_ok-addr-in-Ok.addr) layout.result.size layout.result.align in
    let same : answered ≡ allocation_of align r = Allocation-equal answered (sym c.get.ensures.value) (sym c.size.ensures.value) aligned in
    record {
      leads = (
        subst (IsLayout c.args.min_size) c.max.ensures (c.in-Ok.ensures.succeeds.0 refl),
        long,
        asked_for g.T.GlobalAlloc.leads c.args.self.now.0 c.alloc.new.self (Some c.get.result) (sym c.size.ensures.value ∙ long) aligned
            (subst (λ n. g.T.GlobalAlloc.leads c.args.self.now.0 (allocate layout.result.size layout.result.align (Some n)) c.alloc.new.self) (sym c.get.ensures.value)
            c.in_ok-addr-in-Ok.ensures.leads),
      );
      owes = λ owed h.
          let before = map (allocation_of align) owed in
          let came = subst (λ a. IsAllocationIn space before a × g.T.GlobalAlloc.owes c.alloc.new.self (a ∷ before)) same (c.in_ok-addr-in-Ok.ensures.owes before h.allocations) in
          HeapOwes-more g.T.GlobalAlloc.owes align c.args.self.now.0 c.alloc.new.self space c.args.min_size r owed long valid c.get.ensures.nonzero came h;
    }
