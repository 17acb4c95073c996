use Rattle.std.proofs.Common.{◌≡◌, ◌∙◌, ℕ, ◌+◌, ◌%◌, ◌≤◌, List, ◌∷◌, ap, arith, subst, sym}
use Rattle.std.specs.Int.NonZero.{non_zero_usize_get}
use Rattle.rlsf_base.specs.Range.{end_of}
use Rattle.rlsf_test_flex.specs.Cursor.{Cursor}
use Rattle.rlsf_test_flex.specs.HeapCursor.{heap_cursor, OwesAllocations}
use Rattle.rlsf_test_flex.proofs.HeapCursors.{answered_allocation}
use Rattle.rlsf_flex.specs.Heap.{Allocation, allocation_at, IsAllocationIn}
use Rattle.rlsf_test_flex.proofs.heap_source.CursorAllocGlobalAlloc.alloc.Goals as goal

pub returns-clause-owes : goal.returns-clause-owes
returns-clause-owes c =
    let space = c.self.inside.space in
    let start = c.in_ok-start.start in
    let addr = non_zero_usize_get c.in_ok-addr.addr in
    let size = c.args.layout.size in
    let align = c.args.layout.align in
    let a : Allocation = allocation_at addr size align in
    let same : heap_cursor space c.self.inside.at ≡ c.args.self.now = c.self.view_is ∙ c.remember.ensures in
    let is_start : addr ≡ start = c.in_ok-addr.ensures in
    let (begins, whole) = subst (λ (v : Cursor). (v.at ≤ start) × (start % c.align-align.result ≡ 0)) (sym c.self.view_is) c.in_ok-start.ensures in
    let aligned : addr % align ≡ 0 = ap (λ n. n % align) is_start ∙ ap (λ n. start % n) (sym c.align-align.ensures.value) ∙ whole in
    let (stops, fits) =
    subst (λ (v : Cursor). (c.in_ok-end.end ≡ start + c.size-size.result) × (c.in_ok-end.end ≤ end_of v.terms.space)) (sym c.self.view_is) c.in_ok-end.ensures in
    let ends : addr + size ≡ c.in_ok-end.end = omega (arith, is_start, stops, c.size-size.ensures.value) in
    subst (λ (end : ℕ). (owed : List Allocation) → OwesAllocations c.args.self.now owed
    → IsAllocationIn c.args.self.now.terms.space owed a × OwesAllocations (heap_cursor space end) (a ∷ owed)) ends
    (subst (λ (old : Cursor). (owed : List Allocation) → OwesAllocations old owed
    → IsAllocationIn old.terms.space owed a × OwesAllocations (heap_cursor space (addr + size)) (a ∷ owed)) same
    (answered_allocation space c.self.inside.at addr size align c.self.invariant (omega (arith, begins, is_start)) aligned (omega (arith, ends, fits))))
