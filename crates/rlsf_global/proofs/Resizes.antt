-- A payload is resized in place, and its entry gets another layout.
use Rattle.std.proofs.Common.{◌≡◌, ◌≢◌, ℕ, List, Some, None, Ok, Err, sym, ◌∙◌, ap, subst}
use Rattle.std.specs.declared.num.NonZeroUsize.{NonZeroUsize}
use Rattle.rlsf_base.specs.Addr.{at}
use Rattle.rlsf_base.specs.declared.memory.layout.Layout.{Layout}
use Rattle.rlsf_flex.specs.StandsFor.{FlexContents, StepsAlone}
use Rattle.rlsf_flex.proofs.InnerAllocator.{alone_opened}
use Rattle.rlsf_global.specs.Locked.{IsLocked, heap_of}
use Rattle.rlsf_model_global.specs.Pages.{MayOwe}
use Rattle.rlsf_global.proofs.Placements.{same_heap}
use Rattle.rlsf_model_global.proofs.Maps.{IsServed, Lists-moved, row_at-without_here}
use Rattle.rlsf_model_global.proofs.Rows.{absent-row_at, put-sorted, without_row-sorted}
use Rattle.rlsf_model.specs.Callers.{align_at, bytes_at}
use Rattle.rlsf_model.specs.FlexState.{FlexState}
use Rattle.rlsf_model.specs.NoMove.{ReallocatesWithoutMove}
use Rattle.rlsf_model_global.specs.declared.error.GlobalError.TheVariants.{NoRoom}
use Rattle.rlsf_model_global.specs.Cursor.{PageCursor, terms_of}
use Rattle.rlsf_model_global.specs.Heap.{Lists}
use Rattle.rlsf_model_global.specs.Moves.{HeapResizesThere}
use Rattle.rlsf_model_global.specs.Rows.{Row, put, row_at, without_row}

-- the new entry is that of the address
pub row_there : (rows after : List Row) (addr : ℕ) (to : NonZeroUsize) (wanted : Layout) → at to ≡ addr → after ≡ put (to, wanted) (without_row (at to) rows)
    → after ≡ put (to, wanted) (without_row addr rows)
row_there rows after addr to wanted there now = now ∙ ap (λ a. put (to, wanted) (without_row a rows)) there

-- no entry has the address any more
pub none_left : (addr to : ℕ) (rows : List Row) → to ≡ addr → row_at to (without_row addr rows) ≡ None
none_left addr to rows there = subst (λ a. row_at a (without_row addr rows) ≡ None) (sym there) (row_at-without_here addr rows)

module _ (f : FlexContents PageCursor) (rows : List Row) (v : IsLocked f rows) (f' : FlexContents PageCursor) (addr : ℕ) (wanted : Layout)
    (stays : f'.source ≡ f.source) where
  module _ (to : NonZeroUsize) (there : at to ≡ addr) (steps : StepsAlone 64 64 terms_of MayOwe f f' (ReallocatesWithoutMove f.state.machine addr wanted.size (Some (at to))))
      (rows' : List Row) (now : rows' ≡ put (to, wanted) (without_row addr rows)) where
    pub resized : HeapResizesThere (heap_of f rows) addr wanted (Ok to) (heap_of f' rows')
    resized =
        let (step, after, stands, spare) = alone_opened f f' (ReallocatesWithoutMove f.state.machine addr wanted.size (Some (at to))) steps in (
          f'.state.machine,
          step,
          λ i. record { flex = after i; source = stays i; asked = now i },
        )

    pub resized_locked : IsServed f'.state.machine addr wanted → align_at f'.state.machine ≡ align_at f.state.machine
        → ((a : ℕ) → a ≢ addr → bytes_at f'.state.machine a ≡ bytes_at f.state.machine a)
        → IsLocked f' rows'
    resized_locked is aligns others =
        let (step, after, stands, spare) = alone_opened f f' (ReallocatesWithoutMove f.state.machine addr wanted.size (Some (at to))) steps in
        subst (λ l. IsLocked f' l) (sym now) (record {
          flex = stands;
          sorted =
              put-sorted (to, wanted) (without_row addr rows) (without_row-sorted addr rows v.sorted)
              (absent-row_at (at to) (without_row addr rows) (none_left addr (at to) rows there));
          lists =
              Lists-moved rows f.state.machine f'.state.machine v.lists addr (to, wanted) (subst (λ a. IsServed f'.state.machine a wanted) (sym there) is)
              (λ differs. absurd (differs there))
              (λ a x y. ap (λ g. g a) aligns) (λ a x y. others a x);
        })

  -- the bytes there don't suffice
  module _ (steps : StepsAlone 64 64 terms_of MayOwe f f' (ReallocatesWithoutMove f.state.machine addr wanted.size None)) (same : f'.state ≡ f.state) where
    pub not_resized : HeapResizesThere (heap_of f rows) addr wanted (Err NoRoom) (heap_of f' rows)
    not_resized =
        let (step, after, stands, spare) = alone_opened f f' (ReallocatesWithoutMove f.state.machine addr wanted.size None) steps in
        (subst (λ (s : FlexState). ReallocatesWithoutMove f.state.machine addr wanted.size None s.machine) same step, same_heap f f' rows same stays)

    pub not_resized_locked : IsLocked f' rows
    not_resized_locked =
        let (step, after, stands, spare) = alone_opened f f' (ReallocatesWithoutMove f.state.machine addr wanted.size None) steps in
        record { flex = stands; sorted = v.sorted; lists = subst (λ (s : FlexState). Lists rows s.machine) (sym same) v.lists }
