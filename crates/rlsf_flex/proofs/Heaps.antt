-- A source's ranges as an allocator's allocations.
use Rattle.std.proofs.Common.{◌≡◌, ℕ, ◌<◌, List, Option, [], ◌∷◌, ◌++◌, map, arith, refl, sym, ◌∙◌, ap, subst, inl, inr}
use Rattle.std.proofs.lemmas.List.{map-append}
use Rattle.std.specs.Int.{next_multiple_of}
use Rattle.rlsf_base.proofs.Numbers.Roundings.{next_multiple_of-le}
use Rattle.rlsf_base.specs.declared.memory.range.Range.{Range}
use Rattle.rlsf_base.specs.Layout.{IsLayout}
use Rattle.rlsf_model.specs.Insert.{IsClear}
use Rattle.rlsf_model.specs.Lists.{IsIn}
use Rattle.rlsf_model.specs.Terms.{IsGiven}
use Rattle.rlsf_model.proofs.Between.{IsIn-between}
use Rattle.rlsf_model.proofs.Coverage.{IsIn-append_right}
use Rattle.rlsf_flex.specs.Heap.{Allocation, HeapNote, allocate, allocation_at, allocation_of, bytes_of_allocation, HeapOwes, heap_terms, IsAllocationIn}

-- the bytes of the ranges' allocations are the ranges
bytes_of_allocation-allocations : (align : ℕ) (rs : List Range) → map bytes_of_allocation (map (allocation_of align) rs) ≡ rs
bytes_of_allocation-allocations align [] = refl
bytes_of_allocation-allocations align (r ∷ rs) = ap (λ qs. r ∷ qs) (bytes_of_allocation-allocations align rs)

-- allocations with equal numbers are equal
pub Allocation-equal : {align : ℕ} {r : Range} (a : Allocation) → a.addr ≡ r.start → a.size ≡ r.len → a.align ≡ align → a ≡ allocation_of align r
Allocation-equal {align} {r} a same_addr same_size same_align =
    ap (λ n. allocation_at n a.size a.align) same_addr ∙ ap (λ n. allocation_at r.start n a.align) same_size ∙ ap (allocation_at r.start r.len) same_align

-- a question for a layout is one for the layout's numbers
pub asked_for : {T : Type 0} (leads : T → HeapNote → T → Type 0) (x y : T) {size align n a : ℕ} (answer : Option ℕ) → size ≡ n → align ≡ a
    → leads x (allocate size align answer) y → leads x (allocate n a answer) y
asked_for leads x y {size} {a = a} answer same_size same_align led =
    subst (λ m. leads x (allocate m a answer) y) same_size (subst (λ b. leads x (allocate size b answer) y) same_align led)

module _ {T : Type 0} (owes : T → List Allocation → Type 0) (align : ℕ) where
  -- an outstanding range was provided for a layout
  pub layout_of : (x : T) (r : Range) (xs ys : List Range) → HeapOwes owes align x (xs ++ r ∷ ys) → IsLayout r.len align × (0 < r.start)
  layout_of x r xs ys h = h.layouts r (IsIn-append_right r xs (r ∷ ys) (inl refl))

  -- an outstanding range is an allocation that is owed
  pub HeapOwes-allocations : (x : T) (r : Range) (xs ys : List Range) → HeapOwes owes align x (xs ++ r ∷ ys)
      → owes x (map (allocation_of align) xs ++ allocation_of align r ∷ map (allocation_of align) ys)
  HeapOwes-allocations x r xs ys h = subst (owes x) (map-append (allocation_of align) xs (r ∷ ys)) h.allocations

  -- an allocation is returned
  pub HeapOwes-less : (x y : T) (r : Range) (xs ys : List Range)
      → (owes x (map (allocation_of align) xs ++ allocation_of align r ∷ map (allocation_of align) ys)
      → owes y (map (allocation_of align) xs ++ map (allocation_of align) ys))
      → HeapOwes owes align x (xs ++ r ∷ ys) → HeapOwes owes align y (xs ++ ys)
  HeapOwes-less x y r xs ys gone h = record {
    allocations = subst (owes y) (sym (map-append (allocation_of align) xs ys)) (gone (HeapOwes-allocations x r xs ys h));
    layouts = λ q i. h.layouts q (IsIn-between q r xs ys i);
  }

  -- an allocation is provided
  pub HeapOwes-more : (x y : T) (space : Range) (size : ℕ) (r : Range) (owed : List Range) → r.len ≡ next_multiple_of size align → IsLayout r.len align → 0 < r.start
      → IsAllocationIn space (map (allocation_of align) owed) (allocation_of align r) × owes y (allocation_of align r ∷ map (allocation_of align) owed)
      → HeapOwes owes align x owed
      → IsGiven (heap_terms space align) owed size r × HeapOwes owes align y (r ∷ owed)
  HeapOwes-more x y space size r owed len layout some (is, owed_then) h = (
    record {
      lies_in = is.vacant.lies_in;
      apart = subst (IsClear r) (bytes_of_allocation-allocations align owed) is.vacant.apart;
      long = omega (arith, len, next_multiple_of-le size align);
      power = layout.aligned;
      aligned = is.aligned;
    },
    record { allocations = owed_then; layouts = layouts },
  )
    where
      layouts : (q : Range) → IsIn q (r ∷ owed) → IsLayout q.len align × (0 < q.start)
      layouts q (inl e) = subst (λ (q : Range). IsLayout q.len align × (0 < q.start)) (sym e) (layout, some)
      layouts q (inr i) = h.layouts q i
