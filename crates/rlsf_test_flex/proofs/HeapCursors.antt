-- The answers of an allocator with a cursor keep an allocator's contract.
use Rattle.std.proofs.Common.{◌≡◌, ℕ, ◌+◌, ◌%◌, ◌≤◌, List, ◌∷◌, ◌++◌, map, arith, subst, sym}
use Rattle.std.proofs.lemmas.List.{map-append}
use Rattle.rlsf_base.specs.declared.memory.range.Range.{Range}
use Rattle.rlsf_base.specs.Range.{end_of}
use Rattle.rlsf_test_flex.specs.Cursor.{Cursor, IsCursor, CursorMayOwe}
use Rattle.rlsf_test_flex.specs.HeapCursor.{heap_cursor, OwesAllocations}
use Rattle.rlsf_test_flex.proofs.Cursors.{given_range, gone_range}
use Rattle.rlsf_flex.specs.Heap.{Allocation, allocation_at, bytes_of_allocation, IsAllocationIn}

-- an allocation returns the cursor or an address behind it, and the cursor moves to its end
pub answered_allocation : (space : Range) (at start size align : ℕ) → IsCursor (heap_cursor space at) → at ≤ start → start % align ≡ 0 → start + size ≤ end_of space
    → (owed : List Allocation) → OwesAllocations (heap_cursor space at) owed
    → IsAllocationIn space owed (allocation_at start size align) × OwesAllocations (heap_cursor space (start + size)) (allocation_at start size align ∷ owed)
answered_allocation space at start size align is behind_cursor aligned fits owed may =
    let (given, may_then) = given_range (heap_cursor space at) size start size is behind_cursor (omega arith) (omega arith) fits (map bytes_of_allocation owed) may in
    (record { aligned = aligned; vacant = record { lies_in = given.lies_in; apart = given.apart } }, may_then)

-- an allocation is deallocated
pub gone_allocation : (c : Cursor) (a : Allocation) (before after : List Allocation) → OwesAllocations c (before ++ a ∷ after) → OwesAllocations c (before ++ after)
gone_allocation c a before after may =
    subst (CursorMayOwe c) (sym (map-append bytes_of_allocation before after))
    (gone_range c (bytes_of_allocation a) (map bytes_of_allocation before) (map bytes_of_allocation after)
    (subst (CursorMayOwe c) (map-append bytes_of_allocation before (a ∷ after)) may))
