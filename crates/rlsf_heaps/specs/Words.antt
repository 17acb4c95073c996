-- The definitions that contracts over heaps and their payloads cite.
-- of memories, ranges and lengths
pub use Rattle.rlsf_base.specs.declared.memory.layout.Layout.{Layout}
pub use Rattle.rlsf_base.specs.declared.memory.range.Range.{Range}
pub use Rattle.rlsf_base.specs.Changes.{IsAllOwn, IsOwn}
pub use Rattle.rlsf_base.specs.OpenSpace.{home_of}
pub use Rattle.rlsf_base.specs.Piece.{IsFull, Piece, piece_range}
pub use Rattle.rlsf_base.specs.Range.{AreApart, LiesIn, end_of, range_at}
pub use Rattle.rlsf_base.specs.RawParts.{LiesAtBlock}
pub use Rattle.rlsf_model_sizes.specs.SizeClass.{IsValid}
pub use Rattle.rlsf_model_sizes.specs.Sizes.{pool_size_for_budget, pool_size_for_payloads, request_size}
pub use Rattle.rlsf_base.specs.Space.{Space, range_of}
-- of the state of a heap
pub use Rattle.rlsf_model.specs.Callers.{align_at, bytes_at}
pub use Rattle.rlsf_model.specs.Insert.{IsUntouched}
pub use Rattle.rlsf_model.specs.Sized.{IsSizedFor, IsSizedForBudget, live_bytes, live_count}
pub use Rattle.rlsf_model.specs.State.{State}
-- of a heap and its payloads
pub use Rattle.rlsf_heap.specs.Heap.{HeapView, Identity, IsLent, IsUsable, IsWritten, PayloadView, lent_bytes, payload_range}
pub use Rattle.rlsf_heap.specs.Replies.{IsAllocated, IsAllocatedZeroed, IsDeallocated, IsGone, IsOut, IsRefused, IsResized}
pub use Rattle.rlsf_heap.specs.Replies.{IsResizedInPlace, IsResizedOrMoved, IsUnchanged, WithinBounds}
pub use Rattle.rlsf_tlsf.specs.Bounds.{IfWithinBudget, KeepsBudgets, TakesRoom}
pub use Rattle.rlsf_heap.specs.Frame.{AddsRoom, KeepsAllBounds, KeepsBounds, KeepsFrame, KeepsFrameBeside, KeepsFrameMoving}
pub use Rattle.rlsf_heap.specs.Frame.{KeepsHeap, KeepsPayloads, KeepsRoom, KeepsSized}
pub use Rattle.rlsf_heap.specs.Lending.{HasPool, IsLentTo, IsReclaimed, ReclaimsPool}
pub use Rattle.rlsf_heap.specs.Settled.{IsSettled}
-- of tenants
pub use Rattle.rlsf_local_heap.specs.Tenants.{lessor}
-- of shared heaps
pub use Rattle.rlsf_shared_heap.specs.Shared.{IsOfOne, SharedView}
-- of heaps whose thread never waits
pub use Rattle.rlsf_shared_heap.specs.Owners.{IsCollected, IsServed, KeepsOwner, LeavesLent, LendsNew, OwnerView, ReturnsView, Serves, ServesLent}
-- of pools by size, and of one pool for all
pub use Rattle.rlsf_partitions.specs.Budgets.{IsSumWith}
pub use Rattle.rlsf_partitions.specs.Partitions.{IsKept, IsOf, IsPlaced, PartitionsView, Quota, fresh, partition_for, vacant, with_one_less}
pub use Rattle.rlsf_partitions.specs.Partitions.{with_one_more, with_one_more_for}
