-- A payload moves into another one, or is resized as the allocator does.
use Rattle.std.proofs.Common.{◌≡◌, ◌≢◌, ℕ, arith, length, List, Some, None, Ok, refl, sym, ◌∙◌, ap, subst, inl, inr, ◌++◌}
use Rattle.std.proofs.lemmas.Bool.{cases_eq}
use Rattle.std.proofs.lemmas.Option.{none-some}
use Rattle.std.specs.declared.num.NonZeroUsize.{NonZeroUsize}
use Rattle.std.specs.Prelude.{take, drop, true}
use Rattle.rlsf_base.specs.Addr.{at}
use Rattle.rlsf_base.specs.Space.{range_of}
use Rattle.rlsf_base.specs.declared.memory.layout.Layout.{Layout}
use Rattle.rlsf_flex.specs.StandsFor.{FlexContents, FlexStandsFor, FlexSteps, StepsAlone}
use Rattle.rlsf_flex.proofs.InnerAllocator.{alone_opened, flex_opened}
use Rattle.rlsf_global.specs.Locked.{IsLocked, heap_of}
use Rattle.rlsf_model_global.specs.Pages.{MayOwe}
use Rattle.rlsf_global.specs.Steps.Moves.{IsGivenLayout}
use Rattle.rlsf_model_global.proofs.Maps.{IsServed, Lists-moved, row_at-without_other}
use Rattle.rlsf_global.proofs.Placements.{no_row}
use Rattle.rlsf_global.proofs.Resizes.{none_left}
use Rattle.rlsf_model_global.proofs.Rows.{absent-row_at, put-sorted, without_row-sorted}
use Rattle.rlsf_model.specs.Callers.{IsResizedInMap, align_at, bytes_at, payload_at}
use Rattle.rlsf_model.specs.FlexAllocate.{FlexAllocates}
use Rattle.rlsf_model.specs.FlexReallocate.{FlexReallocates}
use Rattle.rlsf_model.specs.FlexState.{FlexState, with_machine}
use Rattle.rlsf_model.specs.Note.{LeadsBy}
use Rattle.rlsf_model.specs.Release.{Deallocates}
use Rattle.rlsf_model.specs.Run.{Fills, IsSomeLive, reallocate}
use Rattle.rlsf_model.proofs.CallerWords.{SeesFilled, align_at-none, filled_seen}
use Rattle.rlsf_model.proofs.FlexCallers.{flex_callers_see_map}
use Rattle.rlsf_model_global.specs.Cursor.{PageCursor, PageLeads, terms_of}
use Rattle.rlsf_model_global.specs.Moves.{HeapMovesAway, ReallocatesTo}
use Rattle.rlsf_model_global.specs.Rows.{Row, put, row_at, without_row}

-- ---- the table after a move

module _ (f : FlexContents PageCursor) (rows : List Row) (v : IsLocked f rows) (f' : FlexContents PageCursor) (addr : ℕ) (wanted : Layout) (to : NonZeroUsize)
    (is : IsGivenLayout f f' addr wanted (at to)) where
  -- once the old entry is gone, none has the new address
  pub moved_row : row_at (at to) (without_row addr rows) ≡ None
  moved_row = elim (cases_eq (at to) addr) [
    | inl same ↦ none_left addr (at to) rows same
    | inr other ↦ row_at-without_other addr rows (at to) other ∙ no_row f rows v (at to) (is.new other)
  ]

  pub moved_locked : (rows' : List Row) → rows' ≡ put (to, wanted) (without_row addr rows) → IsLocked f' rows'
  moved_locked rows' now = subst (λ l. IsLocked f' l) (sym now) (record {
    flex = is.stands;
    sorted = put-sorted (to, wanted) (without_row addr rows) (without_row-sorted addr rows v.sorted) (absent-row_at (at to) (without_row addr rows) moved_row);
    lists = Lists-moved rows f.state.machine f'.state.machine v.lists addr (to, wanted) (record { live = is.live; sized = is.sized; few = is.few }) is.left is.aligns is.bytes;
  })

-- ---- the allocator's own reallocation

module _ (f f' : FlexContents PageCursor) (addr : ℕ) (wanted : Layout) (to : NonZeroUsize)
    (steps : FlexSteps 64 64 terms_of MayOwe PageLeads f f' (FlexReallocates 64 64 (terms_of f.source) f.state addr wanted.size (Some (at to)))) where
  pub reallocated : (rows : List Row) → ReallocatesTo true (heap_of f rows) addr wanted wanted (Ok to) (heap_of f' (put (to, wanted) (without_row addr rows)))
  reallocated rows =
      let (notes, step, led, outside, stands) = flex_opened f f' (FlexReallocates 64 64 (terms_of f.source) f.state addr wanted.size (Some (at to))) steps in
      ((notes, step, led), refl)

  pub reallocated_stands : FlexStandsFor 64 64 terms_of MayOwe f'
  reallocated_stands =
      let (notes, step, led, outside, stands) = flex_opened f f' (FlexReallocates 64 64 (terms_of f.source) f.state addr wanted.size (Some (at to))) steps in
      stands

  -- where it moved, no payload is at the old address
  pub reallocated_left : FlexStandsFor 64 64 terms_of MayOwe f → IsSomeLive f.state.machine addr → at to ≢ addr → align_at f'.state.machine addr ≡ None
  reallocated_left stood live apart =
      let (notes, step, led, outside, stands) = flex_opened f f' (FlexReallocates 64 64 (terms_of f.source) f.state addr wanted.size (Some (at to))) steps in
      let is : IsResizedInMap (payload_at f.state.machine) addr wanted.size (at to) (payload_at f'.state.machine) =
      flex_callers_see_map 64 64 (terms_of f.source) (range_of f.memory) (range_of f'.memory) f.state f'.state (reallocate addr wanted.size (Some (at to))) notes
      stood.well_formed.machine stands.well_formed.machine live step in
      align_at-none f'.state.machine addr (is.left apart)

-- ---- a payload that moves into another

module _ (f m k e : FlexContents PageCursor) (addr keep : ℕ) (wanted : Layout) (to : NonZeroUsize)
    (takes : FlexSteps 64 64 terms_of MayOwe PageLeads f m (FlexAllocates 64 64 (terms_of f.source) f.state wanted.size wanted.align (Some (at to))))
    (copies : StepsAlone 64 64 terms_of MayOwe m k (Fills m.state.machine (at to) (take keep (bytes_at m.state.machine addr) ++ drop keep (bytes_at m.state.machine (at to)))))
    (frees : StepsAlone 64 64 terms_of MayOwe k e (Deallocates k.state.machine addr)) where
  pub moved_away : k.source ≡ m.source → e.source ≡ k.source → (rows : List Row)
      → HeapMovesAway (heap_of f rows) addr keep wanted (Ok to) (heap_of e (put (to, wanted) (without_row addr rows)))
  moved_away copy_stays free_stays rows =
      let (notes, step, led, outside, stands) = flex_opened f m (FlexAllocates 64 64 (terms_of f.source) f.state wanted.size wanted.align (Some (at to))) takes in
      let (fills, copied, stands2, spare2) =
      alone_opened m k (Fills m.state.machine (at to) (take keep (bytes_at m.state.machine addr) ++ drop keep (bytes_at m.state.machine (at to)))) copies in
      let (gone, freed, stands3, spare3) = alone_opened k e (Deallocates k.state.machine addr) frees in (
        record {
          meanwhile = m.state;
          takes = (notes, step, subst (λ (y : PageCursor). LeadsBy PageLeads f.source notes y) (sym (free_stays ∙ copy_stays)) led);
          copied = k.state.machine;
          copies = fills;
          freed = e.state.machine;
          frees = gone;
          after = freed ∙ ap (λ (s : FlexState). with_machine s e.state.machine) copied;
        },
        refl,
      )

  -- the copy changes no length
  copied_length : (a : ℕ) → length (bytes_at k.state.machine a) ≡ length (bytes_at m.state.machine a)
  copied_length a =
      let bytes = (take keep (bytes_at m.state.machine addr) ++ drop keep (bytes_at m.state.machine (at to))) in
      let (notes, step, led, outside, stands) = flex_opened f m (FlexAllocates 64 64 (terms_of f.source) f.state wanted.size wanted.align (Some (at to))) takes in
      let (fills, copied, stands2, spare2) = alone_opened m k (Fills m.state.machine (at to) bytes) copies in
      let seen : SeesFilled m.state.machine k.state.machine (at to) bytes = filled_seen stands.well_formed.machine k.state.machine (at to) bytes fills in
      seen.lengths a

  freed_stands : FlexStandsFor 64 64 terms_of MayOwe e
  freed_stands = let (gone, freed, stands3, spare3) = alone_opened k e (Deallocates k.state.machine addr) frees in stands3

  module _ (align : ℕ) (live : align_at f.state.machine addr ≡ Some align) (new : align_at f.state.machine (at to) ≡ None) where
    pub to_other : at to ≢ addr
    to_other same = none-some align (sym new ∙ ap (align_at f.state.machine) same ∙ live)

    pub moved_away_seen : IsServed m.state.machine (at to) wanted
        → ((a : ℕ) → a ≢ at to → align_at m.state.machine a ≡ align_at f.state.machine a)
        → ((a : ℕ) → a ≢ at to → bytes_at m.state.machine a ≡ bytes_at f.state.machine a)
        → align_at k.state.machine ≡ align_at m.state.machine → ((a : ℕ) → a ≢ at to → bytes_at k.state.machine a ≡ bytes_at m.state.machine a)
        → align_at e.state.machine addr ≡ None
        → ((a : ℕ) → a ≢ addr → align_at e.state.machine a ≡ align_at k.state.machine a)
        → ((a : ℕ) → a ≢ addr → bytes_at e.state.machine a ≡ bytes_at k.state.machine a)
        → IsGivenLayout f e addr wanted (at to)
    moved_away_seen is aligns bytes copy_aligns copy_bytes gone free_aligns free_bytes =
        let long : length (bytes_at e.state.machine (at to)) ≡ length (bytes_at m.state.machine (at to)) = ap length (free_bytes (at to) to_other) ∙ copied_length (at to) in
        record {
          stands = freed_stands;
          live = free_aligns (at to) to_other ∙ ap (λ g. g (at to)) copy_aligns ∙ is.live;
          sized = omega (arith, is.sized, long);
          few = omega (arith, is.few, long);
          new = λ apart. new;
          left = λ apart. gone;
          aligns = λ a off off_to. free_aligns a off ∙ ap (λ g. g a) copy_aligns ∙ aligns a off_to;
          bytes = λ a off off_to. free_bytes a off ∙ copy_bytes a off_to ∙ bytes a off_to;
        }
