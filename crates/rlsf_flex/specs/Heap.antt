-- Allocators of single allocations, and one as a source of memory.
use Rattle.std.specs.Prelude.{◌≡◌, ℕ, ◌%◌, ◌<◌, ◌⊎◌, true, false, List, ◌∷◌, ◌++◌, map, Option, Some, None, MatchOption}
use Rattle.std.specs.declared.num.NonZeroUsize.{NonZeroUsize}
use Rattle.std.specs.Int.{next_multiple_of}
use Rattle.rlsf_base.specs.declared.memory.range.Range.{Range}
use Rattle.rlsf_base.specs.Addr.{at}
use Rattle.rlsf_base.specs.Layout.{IsLayout}
use Rattle.rlsf_base.specs.Range.{range_at}
use Rattle.rlsf_model.specs.Insert.{IsVacant}
use Rattle.rlsf_model.specs.Lists.{IsIn}
use Rattle.rlsf_model.specs.Note.{Note, alloc, dealloc, grow}
use Rattle.rlsf_model.specs.Terms.{OwesGrown, Terms}

-- an address with the layout that it was provided for
pub record Allocation : Type 0 where
  pub addr : ℕ
  pub size : ℕ
  pub align : ℕ

-- the allocation at an address, for a layout
abbrev pub allocation_at : ℕ → ℕ → ℕ → Allocation
allocation_at addr size align = record { addr = addr; size = size; align = align }

-- the allocation's bytes
abbrev pub bytes_of_allocation : Allocation → Range
bytes_of_allocation a = range_at a.addr a.size

-- a question to an allocator with its answer: a size and an alignment are requested, or an allocation is deallocated
pub data HeapNote : Type 0 where
  allocate : ℕ → ℕ → Option ℕ → HeapNote
  deallocate : Allocation → HeapNote

-- an allocation that is a possible answer while these are owed: its address is a multiple of its alignment, and its bytes lie in
-- the space and overlap no other allocation
pub record IsAllocationIn (space : Range) (owed : List Allocation) (a : Allocation) : Type 0 where
  pub aligned : a.addr % a.align ≡ 0
  pub vacant : IsVacant space (map bytes_of_allocation owed) (bytes_of_allocation a)

-- what is owed after a question for an allocation: the same if none came; otherwise also the one that came, which is a possible answer
abbrev pub OwesAllocated : Range → (List Allocation → Type 0) → List Allocation → ℕ → ℕ → Option NonZeroUsize → Type 0
OwesAllocated space owes owed size align reply =
    MatchOption reply (owes owed) (λ addr. let a = allocation_at (at addr) size align in IsAllocationIn space owed a × owes (a ∷ owed))

-- ---- as a source, which asks with one alignment and whole multiples of it

-- the range as an allocation
abbrev pub allocation_of : ℕ → Range → Allocation
allocation_of align r = allocation_at r.start r.len align

-- the source takes ranges back, grows none, and isn't one range
abbrev pub heap_terms : Range → ℕ → Terms
heap_terms space align = record { space = space; dealloc = true; grow = false; contiguous = false; min_align = align }

-- the ranges are allocations that the allocator may owe
pub record HeapOwes {T : Type 0} (owes : T → List Allocation → Type 0) (align : ℕ) (x : T) (ranges : List Range) : Type 0 where
  pub allocations : owes x (map (allocation_of align) ranges)
  pub layouts : (r : Range) → IsIn r ranges → IsLayout r.len align × (0 < r.start)

-- the question leads where the allocator's does, for the size rounded up to a multiple of the alignment; where that is no
-- layout, the answer is none and nothing changes
abbrev pub HeapLeads : {T : Type 0} → (T → HeapNote → T → Type 0) → ℕ → T → Note → T → Type 0
HeapLeads leads align x (alloc size None) y = ((¬ IsLayout size align) × (y ≡ x)) ⊎ (IsLayout size align × leads x (allocate (next_multiple_of size align) align None) y)
HeapLeads leads align x (alloc size (Some r)) y =
    IsLayout size align × (r.len ≡ next_multiple_of size align) × leads x (allocate (next_multiple_of size align) align (Some r.start)) y
HeapLeads leads align x (grow r len answer) y = (answer ≡ None) × (y ≡ x)
HeapLeads leads align x (dealloc r) y = leads x (deallocate (allocation_of align r)) y

-- what is owed after a question for growth, whichever ranges are outstanding beside the range
abbrev pub HeapOwesGrown : {T : Type 0} → (T → List Allocation → Type 0) → (T → Range) → ℕ → T → Range → ℕ → Option ℕ → T → Type 0
HeapOwesGrown owes space align x range len answer y =
    (before after : List Range) → HeapOwes owes align x (before ++ range ∷ after)
    → OwesGrown (heap_terms (space x) align) (HeapOwes owes align y) before range after len answer
