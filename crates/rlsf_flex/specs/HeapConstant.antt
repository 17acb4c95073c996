-- An allocator as a source keeps its terms. A law of the trait is proved by this, so it is here.
use Rattle.std.specs.Prelude.{◌≡◌, ℕ, Some, None}
use Rattle.std.proofs.Common.{ap, inl, inr}
use Rattle.rlsf_base.specs.declared.memory.range.Range.{Range}
use Rattle.rlsf_flex.specs.Heap.{HeapLeads, HeapNote, heap_terms}
use Rattle.rlsf_model.specs.Note.{Note, alloc, dealloc, grow}

module _ {T : Type 0} (leads : T → HeapNote → T → Type 0) (space : T → Range) (align : ℕ)
    (constant : (x y : T) (n : HeapNote) → leads x n y → space y ≡ space x) where
  -- where no question changes the allocator's space, none changes the source's terms
  pub heap_terms-constant : (x y : T) (n : Note) → HeapLeads leads align x n y → heap_terms (space y) align ≡ heap_terms (space x) align
  heap_terms-constant x y (alloc size None) (inl (refused, same)) = ap (λ z. heap_terms (space z) align) same
  heap_terms-constant x y (alloc size None) (inr (layout, led)) = ap (λ s. heap_terms s align) (constant x y _ led)
  heap_terms-constant x y (alloc size (Some r)) (layout, long, led) = ap (λ s. heap_terms s align) (constant x y _ led)
  heap_terms-constant x y (grow r len answer) (none, same) = ap (λ z. heap_terms (space z) align) same
  heap_terms-constant x y (dealloc r) led = ap (λ s. heap_terms s align) (constant x y _ led)
