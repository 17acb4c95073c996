-- How a heap goes on from step to step.
use Rattle.std.proofs.Common.{◌≡◌, ◌≢◌, ℕ, ◌≤◌, length, List, Option, Some, None, IsSome, Ok, refl, sym, subst}
use Rattle.std.specs.declared.num.NonZeroUsize.{NonZeroUsize}
use Rattle.rlsf_base.specs.Addr.{at}
use Rattle.rlsf_base.specs.declared.memory.layout.Layout.{Layout}
use Rattle.rlsf_flex.specs.StandsFor.{FlexContents, FlexSteps, StepsAlone}
use Rattle.rlsf_flex.proofs.InnerAllocator.{alone_opened, flex_opened}
use Rattle.rlsf_global.specs.Locked.{IsLocked, LockedContents, LockedStands, flex_of, heap_of}
use Rattle.rlsf_global.specs.Steps.Moves.{StaysRefused}
use Rattle.rlsf_model_global.specs.Pages.{MayOwe}
use Rattle.rlsf_model_global.proofs.PageAnswers.{refused_notes}
use Rattle.rlsf_model_global.proofs.Maps.{IsServed, Lists-filled, Lists-put, Lists-without_row, agrees-none}
use Rattle.rlsf_model_global.proofs.Rows.{absent-row_at, put-sorted, without_row-sorted}
use Rattle.rlsf_model.specs.Callers.{align_at, bytes_at}
use Rattle.rlsf_model.specs.FlexAllocate.{FlexAllocates}
use Rattle.rlsf_model.specs.FlexState.{FlexState}
use Rattle.rlsf_model.specs.Growth.{Extends, refused}
use Rattle.rlsf_model.specs.Note.{LeadsBy, Note}
use Rattle.rlsf_model.specs.Release.{Deallocates}
use Rattle.rlsf_model.specs.Run.{Fills}
use Rattle.rlsf_model_global.specs.Cursor.{PageCursor, PageLeads, terms_of}
use Rattle.rlsf_model_global.specs.Heap.{Agrees, Lists, with_state}
use Rattle.rlsf_model_global.specs.Rows.{Row, put, row_at, without_row}
use Rattle.rlsf_model_global.specs.Steps.{HeapAllocates, Releases}

-- what is true of the value stays true
pub locked_stands : (v : LockedContents) → IsLocked (flex_of v) v.heap.asked → LockedStands v
unfolding LockedStands
locked_stands v is = is

-- ---- nothing changed

-- heaps with equal states and equal cursors are equal
pub same_heap : (f f' : FlexContents PageCursor) (rows : List Row) → f'.state ≡ f.state → f'.source ≡ f.source → heap_of f' rows ≡ heap_of f rows
same_heap f f' rows same stays i = record { flex = same i; source = stays i; asked = rows }

-- where no memory came, the cursor stays too
pub refusal_stays : (f f' : FlexContents PageCursor) (made : List Note → FlexState → Type 0) → FlexSteps 64 64 terms_of MayOwe PageLeads f f' made
    → ((notes : List Note) → made notes f'.state → (wanted : Option ℕ) × Extends 64 (terms_of f.source) f.state wanted refused notes f'.state)
    → f'.state ≡ f.state → f'.memory.bytes ≡ f.memory.bytes → StaysRefused f f'
refusal_stays f f' made steps asks same kept =
    let (notes, step, led, outside, stands) = flex_opened f f' made steps in
    let source = refused_notes f.source f'.source _ _ (subst (λ ns. LeadsBy PageLeads f.source ns f'.source) (asks notes step).1.asked led) in
    record { stands = stands; state = same; source = source; bytes = kept }

-- and the step is one from a heap to itself
pub refusal_made : (f f' : FlexContents PageCursor) (made : List Note → FlexState → Type 0) → FlexSteps 64 64 terms_of MayOwe PageLeads f f' made → StaysRefused f f'
    → (rows : List Row) → ((notes : List Note) × made notes f.state × LeadsBy PageLeads f.source notes f.source) × (heap_of f' rows ≡ heap_of f rows)
refusal_made f f' made steps stays rows =
    let (notes, step, led, outside, stands) = flex_opened f f' made steps in
    ((notes, subst (made notes) stays.state step, subst (LeadsBy PageLeads f.source notes) stays.source led), same_heap f f' rows stays.state stays.source)

-- ---- what changed

module _ (f : FlexContents PageCursor) (rows : List Row) (v : IsLocked f rows) where
  -- an address with an entry is live, and its payload serves the entry's layout
  pub live_row : (addr : ℕ) (r : Row) → row_at addr rows ≡ Some r → align_at f.state.machine addr ≡ Some r.1.align
  live_row addr r there = (subst (λ o. Agrees o (align_at f.state.machine addr) (bytes_at f.state.machine addr)) there (v.lists addr)).0

  pub row_sized : (addr : ℕ) (r : Row) → row_at addr rows ≡ Some r → r.1.size ≤ length (bytes_at f.state.machine addr)
  row_sized addr r there = (subst (λ o. Agrees o (align_at f.state.machine addr) (bytes_at f.state.machine addr)) there (v.lists addr)).1

  pub live_here : (addr : ℕ) (r : Row) → row_at addr rows ≡ Some r → IsSome (align_at f.state.machine addr)
  live_here addr r there = subst IsSome (sym (live_row addr r there)) refl

  -- an address where no payload is has no entry
  pub no_row : (addr : ℕ) → align_at f.state.machine addr ≡ None → row_at addr rows ≡ None
  no_row addr none = agrees-none (row_at addr rows) (bytes_at f.state.machine addr) (subst (λ o. Agrees (row_at addr rows) o (bytes_at f.state.machine addr)) none (v.lists addr))

  -- the allocator has room
  module _ (f' : FlexContents PageCursor) (layout : Layout) (addr : NonZeroUsize)
      (steps : FlexSteps 64 64 terms_of MayOwe PageLeads f f' (FlexAllocates 64 64 (terms_of f.source) f.state layout.size layout.align (Some (at addr)))) (rows' : List Row)
      (there : rows' ≡ put (addr, layout) rows) where
    pub allocated : HeapAllocates (heap_of f rows) layout (Ok addr) (heap_of f' rows')
    allocated = let (notes, step, led, outside, stands) = flex_opened f f' (FlexAllocates 64 64 (terms_of f.source) f.state layout.size layout.align (Some (at addr))) steps in
        ((notes, step, led), there)

    pub allocated_locked : align_at f.state.machine (at addr) ≡ None → IsServed f'.state.machine (at addr) layout
        → ((a : ℕ) → a ≢ at addr → align_at f'.state.machine a ≡ align_at f.state.machine a)
        → ((a : ℕ) → a ≢ at addr → bytes_at f'.state.machine a ≡ bytes_at f.state.machine a) → IsLocked f' rows'
    allocated_locked new is aligns bytes =
        let (notes, step, led, outside, stands) = flex_opened f f' (FlexAllocates 64 64 (terms_of f.source) f.state layout.size layout.align (Some (at addr))) steps in
        subst (λ l. IsLocked f' l) (sym there) (record {
          flex = stands;
          sorted = put-sorted (addr, layout) rows v.sorted (absent-row_at (at addr) rows (no_row (at addr) new));
          lists = Lists-put rows f.state.machine f'.state.machine v.lists (addr, layout) is aligns bytes;
        })

  -- the allocator had none, and no memory came
  pub refused_locked : (f' : FlexContents PageCursor) → StaysRefused f f' → IsLocked f' rows
  refused_locked f' is = record { flex = is.stands; sorted = v.sorted; lists = subst (λ (s : FlexState). Lists rows s.machine) (sym is.state) v.lists }

  -- a payload was deallocated
  module _ (f' : FlexContents PageCursor) (addr : ℕ) (steps : StepsAlone 64 64 terms_of MayOwe f f' (Deallocates f.state.machine addr)) (stays : f'.source ≡ f.source)
      (rows' : List Row) (there : rows' ≡ without_row addr rows) where
    pub released : Releases (heap_of f rows) addr (heap_of f' rows')
    released =
        let (step, after, stands, spare) = alone_opened f f' (Deallocates f.state.machine addr) steps in (
          f'.state.machine,
          step,
          λ i. record { flex = after i; source = stays i; asked = there i },
        )

    pub released_locked : align_at f'.state.machine addr ≡ None → ((a : ℕ) → a ≢ addr → align_at f'.state.machine a ≡ align_at f.state.machine a)
        → ((a : ℕ) → a ≢ addr → bytes_at f'.state.machine a ≡ bytes_at f.state.machine a) → IsLocked f' rows'
    released_locked gone aligns bytes =
        let (step, after, stands, spare) = alone_opened f f' (Deallocates f.state.machine addr) steps in
        subst (λ l. IsLocked f' l) (sym there) (record {
          flex = stands;
          sorted = without_row-sorted addr rows v.sorted;
          lists = Lists-without_row rows f.state.machine f'.state.machine v.lists addr gone aligns bytes;
        })

  -- a payload was written
  module _ (f' : FlexContents PageCursor) (addr : ℕ) (bytes : List ℕ) (steps : StepsAlone 64 64 terms_of MayOwe f f' (Fills f.state.machine addr bytes))
      (stays : f'.source ≡ f.source) where
    pub filled : Fills f.state.machine addr bytes f'.state.machine × (heap_of f' rows ≡ with_state (heap_of f rows) f'.state.machine rows)
    filled =
        let (step, after, stands, spare) = alone_opened f f' (Fills f.state.machine addr bytes) steps in (
          step,
          λ i. record { flex = after i; source = stays i; asked = rows },
        )

    pub filled_locked : align_at f'.state.machine ≡ align_at f.state.machine → length (bytes_at f'.state.machine addr) ≡ length (bytes_at f.state.machine addr)
        → ((a : ℕ) → a ≢ addr → bytes_at f'.state.machine a ≡ bytes_at f.state.machine a) → IsLocked f' rows
    filled_locked aligns len others =
        let (step, after, stands, spare) = alone_opened f f' (Fills f.state.machine addr bytes) steps in
        record { flex = stands; sorted = v.sorted; lists = Lists-filled rows f.state.machine f'.state.machine v.lists addr aligns len others }
