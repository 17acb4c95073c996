-- An allocator that provides its space from a cursor on.
use Rattle.std.specs.Prelude.{◌≡◌, ℕ, List, map}
use Rattle.rlsf_base.specs.declared.memory.range.Range.{Range}
use Rattle.rlsf_test_flex.specs.Cursor.{Cursor, CursorMayOwe}
use Rattle.rlsf_flex.specs.Heap.{Allocation, bytes_of_allocation, heap_terms, HeapNote}

-- the space, and the address that no outstanding allocation goes past
abbrev pub heap_cursor : Range → ℕ → Cursor
heap_cursor space at = record { terms = heap_terms space 1; at = at }

-- the allocations lie in the space before the cursor, and don't overlap
abbrev pub OwesAllocations : Cursor → List Allocation → Type 0
OwesAllocations c owed = CursorMayOwe c (map bytes_of_allocation owed)

-- no question changes the space
abbrev pub KeepsSpace : Cursor → HeapNote → Cursor → Type 0
KeepsSpace x n y = y.terms.space ≡ x.terms.space
