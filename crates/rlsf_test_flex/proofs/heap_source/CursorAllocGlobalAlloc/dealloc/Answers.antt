use Rattle.std.proofs.Common.{◌++◌, subst, sym}
use Rattle.std.specs.Int.NonZero.{non_zero_usize_get}
use Rattle.rlsf_test_flex.specs.HeapCursor.{OwesAllocations}
use Rattle.rlsf_test_flex.proofs.HeapCursors.{gone_allocation}
use Rattle.rlsf_flex.specs.Heap.{allocation_at}
use Rattle.rlsf_test_flex.proofs.heap_source.CursorAllocGlobalAlloc.dealloc.Goals as goal

pub returns-clause-owes : goal.returns-clause-owes
returns-clause-owes c before after may =
    let a = allocation_at (non_zero_usize_get c.args.addr) c.args.layout.size c.args.layout.align in
    subst (λ v. OwesAllocations v (before ++ after)) (sym c.remember.ensures) (gone_allocation c.args.self.now a before after may)
