use Rattle.std.proofs.Common.{◌≡◌, ◌∙◌, ◌∷◌, ◌++◌, map, max, arith, subst, sym}
use Rattle.std.specs.Int.NonZero.{non_zero_usize_get}
use Rattle.rlsf_base.specs.Layout.{IsLayout}
use Rattle.rlsf_flex.proofs.Heaps.{Allocation-equal, HeapOwes-less, layout_of}
use Rattle.rlsf_flex.specs.Heap.{Allocation, allocation_at, allocation_of, deallocate}
use Rattle.rlsf_flex.proofs.heap.GlobalAllocAsFlexSourceFlexSource.dealloc.Goals as goal

pub from_size_align_unchecked-layout-requires : goal.from_size_align_unchecked-layout-requires
from_size_align_unchecked-layout-requires g c =
    let (before, after, h) = c.requires.outstanding in
    subst (IsLayout c.args.range.len) (sym c.max.ensures) (layout_of g.T.GlobalAlloc.owes (max g.row.ALIGN 32) c.args.self.now.0 c.args.range before after h).0

pub returns-in-Some : goal.returns-in-Some
returns-in-Some g c =
    let align = max g.row.ALIGN 32 in
    let layout = c.from_size_align_unchecked-layout in
    let (same_size, same_align) = layout.ensures in
    let gone : Allocation = allocation_at (non_zero_usize_get c.in-Some.addr) layout.result.size layout.result.align in
    let same : gone ≡ allocation_of align c.args.range = Allocation-equal gone c.in-Some.ensures same_size (same_align ∙ c.max.ensures) in
    record {
      leads = subst (λ a. g.T.GlobalAlloc.leads c.args.self.now.0 (deallocate a) c.dealloc.new.self) same c.dealloc.ensures.leads;
      owes = λ before after h.
          let xs = map (allocation_of align) before in
          let ys = map (allocation_of align) after in
          let takes_back =
          subst (λ a. g.T.GlobalAlloc.owes c.args.self.now.0 (xs ++ a ∷ ys) → g.T.GlobalAlloc.owes c.dealloc.new.self (xs ++ ys)) same (c.dealloc.ensures.owes xs ys) in
          HeapOwes-less g.T.GlobalAlloc.owes align c.args.self.now.0 c.dealloc.new.self c.args.range before after takes_back h;
    }

pub returns-in_default : goal.returns-in_default
returns-in_default g c =
    let (before, after, h) = c.requires.outstanding in
    let (layout, some) = layout_of g.T.GlobalAlloc.owes (max g.row.ALIGN 32) c.args.self.now.0 c.args.range before after h in
    absurd (omega (arith, some, c.in_default.ensures))
