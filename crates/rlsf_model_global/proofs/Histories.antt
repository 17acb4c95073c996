-- Each step of a heap, and each list of them, leaves a heap and what it doesn't name.
use Rattle.std.proofs.Common.{◌≡◌, ◌⊎◌, ℕ, Bool, true, false, MatchBool, eqb, min, length, List, [], ◌∷◌, Option, Some, None, Ok, Err, refl, sym, ◌&&◌, ◌==◌}
use Rattle.std.proofs.Common.{◌∙◌, ap, subst, inl, inr}
use Rattle.std.proofs.lemmas.Bool.{and_parts, eqb-true}
use Rattle.std.specs.Option.{option_map}
use Rattle.rlsf_base.specs.Addr.{at}
use Rattle.rlsf_base.specs.declared.memory.layout.Layout.{Layout}
use Rattle.rlsf_base.specs.declared.memory.range.Range.{Range}
use Rattle.rlsf_model.specs.Callers.{bytes_at}
use Rattle.rlsf_model.specs.FlexReallocate.{ReallocatesInRoom}
use Rattle.rlsf_model.specs.Run.{reallocate as machine_reallocates}
use Rattle.rlsf_model.specs.FlexState.{with_machine}
use Rattle.rlsf_model.proofs.CallerWords.{bytes_at-map}
use Rattle.rlsf_model.proofs.NoMove.{unmoved_is_reallocated}
use Rattle.rlsf_model_global.specs.declared.error.GlobalError.TheVariants.{NoRoom, TableMemory}
use Rattle.rlsf_model_global.specs.Heap.{Heap, content_at, layout_at, with_state}
use Rattle.rlsf_model_global.specs.History.{IsPlacedAt, LeadsTo, Names, Step, allocate, deallocate, deallocate_as, reallocate, reallocate_as, reallocate_there, read, usable, write}
use Rattle.rlsf_model_global.specs.Isolation.{HistoriesKeepHeap, IsSameAt, StepsKeepHeap, UnnamedStays, UnnamedStaysThroughout}
use Rattle.rlsf_model_global.specs.Moves.{HeapMovesAway, ReallocatesAsAt, ReallocatesAt, ReallocatesThereAt, ReallocatesTo, HeapResizesThere}
use Rattle.rlsf_model_global.specs.Rows.{Row, put, row_at, without_row}
use Rattle.rlsf_model_global.specs.Standing.{IsHeap}
use Rattle.rlsf_model_global.specs.Steps.{DeallocatesAsAt, DeallocatesAt, Done, Placed, WritesAt, are_usable}
use Rattle.rlsf_model_global.proofs.StepLeavesFlex.{flex_goes}
use Rattle.rlsf_model_global.proofs.StepLeavesHeap.{Goes, Stays, allocated, released, replaced, resized, row_lives, stays_all, written}

-- by what a test shows
pub either : {A B C : Type 0} (b : Bool) → MatchBool b A B → (b ≡ true → A → C) → (b ≡ false → B → C) → C
either true x f g = f refl x
either false x f g = g refl x

-- layouts that are the same have one alignment
pub is_same-align : (a b : Layout) → ((a.size == b.size) && (a.align == b.align)) ≡ true → a.align ≡ b.align
is_same-align a b e = eqb-true a.align b.align (and_parts (eqb a.size b.size) (eqb a.align b.align) e).1

module _ {memory : Range} (h : Heap) (w : IsHeap memory h) (g : Heap) where
  -- ---- a payload that is allocated, deallocated or written

  allocation_goes : (layout : Layout) (result : Placed) → LeadsTo h (allocate layout result) g → Goes memory h g (IsPlacedAt result)
  allocation_goes layout (Ok addr) step = allocated h w g addr layout step.0 step.1
  allocation_goes layout (Err NoRoom) step = stays_all h w (IsPlacedAt (Err NoRoom)) g step.1
  allocation_goes layout (Err TableMemory) step = stays_all h w (IsPlacedAt (Err TableMemory)) g step
  allocation_goes layout (Err e) step = absurd step

  deallocation_goes : (addr : ℕ) (o : Option Row) (result : Done) → DeallocatesAt h addr o result g → Goes memory h g (λ a. addr ≡ a)
  deallocation_goes addr None result step = stays_all h w (λ a. addr ≡ a) g step.1
  deallocation_goes addr (Some row) result step = released h w g addr step.1

  deallocation_as_goes : (addr : ℕ) (layout : Layout) (o : Option Row) (result : Done) → DeallocatesAsAt h addr layout o result g → Goes memory h g (λ a. addr ≡ a)
  deallocation_as_goes addr layout None result step = stays_all h w (λ a. addr ≡ a) g step.1
  deallocation_as_goes addr layout (Some row) result step =
      either ((row.1.size == layout.size) && (row.1.align == layout.align)) step (λ same did. released h w g addr did.1) (λ differs did. stays_all h w (λ a. addr ≡ a) g did.1)

  write_goes : (addr offset : ℕ) (bytes : List ℕ) (o : Option Row) (result : Done) → WritesAt h addr offset bytes o result g → Goes memory h g (λ a. addr ≡ a)
  write_goes addr offset bytes None result step = stays_all h w (λ a. addr ≡ a) g step.1
  write_goes addr offset bytes (Some row) result step =
      either (are_usable h addr offset (length bytes)) step (λ within did. written h w g addr offset bytes did.1) (λ past did. stays_all h w (λ a. addr ≡ a) g did.1)

  -- ---- a payload that gets another size

  module _ (addr : ℕ) (row : Row) (there : row_at addr h.asked ≡ Some row) (wanted : Layout) where
    moving_goes : (keep : ℕ) (result : Placed) → HeapMovesAway h addr keep wanted result g → Goes memory h g (λ a. (addr ≡ a) ⊎ IsPlacedAt result a)
    moving_goes keep (Ok to) step = replaced h w addr row there g to wanted step.1 keep step.0
    moving_goes keep (Err NoRoom) step = stays_all h w (λ a. (addr ≡ a) ⊎ IsPlacedAt (Err NoRoom) a) g step.1
    moving_goes keep (Err e) step = absurd step

    resizing_goes : row.1.align ≡ wanted.align → (result : Placed) → ReallocatesTo true h addr wanted wanted result g → Goes memory h g (λ a. (addr ≡ a) ⊎ IsPlacedAt result a)
    resizing_goes aligned (Ok to) ((notes, step, led), asked) =
        resized h w addr row there g to wanted asked notes aligned
        (flex_goes h.source g.source w.owed.cursor h.flex w.flex w.owed g.flex notes led (machine_reallocates addr wanted.size (Some (at to))) tt
        (row_lives h addr row w.lists there) step)
    resizing_goes aligned (Err NoRoom) step = stays_all h w (λ a. (addr ≡ a) ⊎ IsPlacedAt (Err NoRoom) a) g step.1
    resizing_goes aligned (Err e) step = absurd step

    unmoved_goes : row.1.align ≡ wanted.align → (result : Placed) → HeapResizesThere h addr wanted result g → Goes memory h g (λ a. (addr ≡ a) ⊎ IsPlacedAt result a)
    unmoved_goes aligned (Ok to) (m, did, after) =
        let u = with_machine h.flex m in
        let room : ReallocatesInRoom 64 h.flex addr wanted.size (at to) [] u =
        record { machine = m; reallocates = (unmoved_is_reallocated 64 h.flex.machine m addr wanted.size (Some (at to)) did).0.1; none = refl; after = refl } in
        subst (λ (x : Heap). Goes memory h x (λ a. (addr ≡ a) ⊎ IsPlacedAt (Ok to) a)) (sym after)
        (resized h w addr row there (with_state h m (put (to, wanted) (without_row addr h.asked))) to wanted refl [] aligned
        (flex_goes h.source h.source w.owed.cursor h.flex w.flex w.owed u [] refl (machine_reallocates addr wanted.size (Some (at to))) tt (row_lives h addr row w.lists there)
        (inl room)))
    unmoved_goes aligned (Err NoRoom) step = stays_all h w (λ a. (addr ≡ a) ⊎ IsPlacedAt (Err NoRoom) a) g step.1
    unmoved_goes aligned (Err e) step = absurd step

  reallocation_as_goes : (enabled : Bool) (addr : ℕ) (layout : Layout) (n : ℕ) (o : Option Row) (result : Placed) → row_at addr h.asked ≡ o
      → ReallocatesAsAt enabled h addr layout n o result g
      → Goes memory h g (λ a. (addr ≡ a) ⊎ IsPlacedAt result a)
  reallocation_as_goes enabled addr layout n None result there step = stays_all h w (λ a. (addr ≡ a) ⊎ IsPlacedAt result a) g step.1
  reallocation_as_goes enabled addr layout n (Some row) result there step =
      either ((row.1.size == layout.size) && (row.1.align == layout.align)) step
      (λ same did. made enabled did.0 (is_same-align row.1 layout same ∙ sym did.2) did.3)
      (λ differs did. stays_all h w (λ a. (addr ≡ a) ⊎ IsPlacedAt result a) g did.1)
    where
      made : (b : Bool) (wanted : Layout) → row.1.align ≡ wanted.align → ReallocatesTo b h addr layout wanted result g
          → Goes memory h g (λ a. (addr ≡ a) ⊎ IsPlacedAt result a)
      made true wanted aligned did = resizing_goes addr row there wanted aligned result did
      made false wanted aligned did = moving_goes addr row there wanted (min layout.size wanted.size) result did

  reallocation_goes : (addr : ℕ) (wanted : Layout) (o : Option Row) (result : Placed) → row_at addr h.asked ≡ o → ReallocatesAt h addr wanted o result g
      → Goes memory h g (λ a. (addr ≡ a) ⊎ IsPlacedAt result a)
  reallocation_goes addr wanted None result there step = stays_all h w (λ a. (addr ≡ a) ⊎ IsPlacedAt result a) g step.1
  reallocation_goes addr wanted (Some row) result there step = moving_goes addr row there wanted (min wanted.size (length (bytes_at h.flex.machine addr))) result step

  reallocation_there_goes : (addr : ℕ) (layout : Layout) (n : ℕ) (o : Option Row) (result : Placed) → row_at addr h.asked ≡ o
      → ReallocatesThereAt h addr layout n o result g
      → Goes memory h g (λ a. (addr ≡ a) ⊎ IsPlacedAt result a)
  reallocation_there_goes addr layout n None result there step = stays_all h w (λ a. (addr ≡ a) ⊎ IsPlacedAt result a) g step.1
  reallocation_there_goes addr layout n (Some row) result there step =
      either ((row.1.size == layout.size) && (row.1.align == layout.align)) step
      (λ same did. unmoved_goes addr row there did.0 (is_same-align row.1 layout same ∙ sym did.2) result did.3)
      (λ differs did. stays_all h w (λ a. (addr ≡ a) ⊎ IsPlacedAt result a) g did.1)

  -- ---- each step

  pub step_goes : (s : Step) → LeadsTo h s g → Goes memory h g (Names s)
  step_goes (allocate layout result) step = allocation_goes layout result step
  step_goes (deallocate addr result) step = deallocation_goes addr (row_at addr h.asked) result step
  step_goes (deallocate_as addr layout result) step = deallocation_as_goes addr layout (row_at addr h.asked) result step
  step_goes (reallocate_as enabled addr layout n result) step = reallocation_as_goes enabled addr layout n (row_at addr h.asked) result refl step
  step_goes (reallocate addr wanted result) step = reallocation_goes addr wanted (row_at addr h.asked) result refl step
  step_goes (reallocate_there addr layout n result) step = reallocation_there_goes addr layout n (row_at addr h.asked) result refl step
  step_goes (read addr offset lent result left) step = stays_all h w (λ a. addr ≡ a) g step.1
  step_goes (write addr offset bytes result) step = write_goes addr offset bytes (row_at addr h.asked) result step
  step_goes (usable addr result) step = stays_all h w (λ a. addr ≡ a) g step.1

-- ---- the laws

pub steps_keep_heap : StepsKeepHeap
steps_keep_heap memory h g s w step = (step_goes h w g s step).heap

pub histories_keep_heap : HistoriesKeepHeap
histories_keep_heap memory h g [] w run = subst (IsHeap memory) (sym run) w
histories_keep_heap memory h g (s ∷ steps) w (m, step, rest) = histories_keep_heap memory m g steps (steps_keep_heap memory h m s w step) rest

-- what callers see of a payload that stays
same_at : (a : ℕ) (h g : Heap) → Stays a h g → IsSameAt a h g
unfolding content_at layout_at
same_at a h g stays = record { content = bytes_at-map h.flex.machine g.flex.machine a a stays.payload; layout = ap (option_map (λ (r : Row). r.1)) stays.row }

pub same_at-refl : (a : ℕ) (h g : Heap) → g ≡ h → IsSameAt a h g
same_at-refl a h g same = record { content = ap (λ (x : Heap). content_at x a) same; layout = ap (λ (x : Heap). layout_at x a) same }

pub unnamed_stays : UnnamedStays
unnamed_stays memory h g s a w step off = same_at a h g ((step_goes h w g s step).others a off)

pub unnamed_stays_throughout : UnnamedStaysThroughout
unnamed_stays_throughout memory h g [] a w run off = same_at-refl a h g run
unnamed_stays_throughout memory h g (s ∷ steps) a w (m, step, rest) off =
    let first = unnamed_stays memory h m s a w step (off s (inl refl)) in
    let others = unnamed_stays_throughout memory m g steps a (steps_keep_heap memory h m s w step) rest (λ x i. off x (inr i)) in
    record { content = others.content ∙ first.content; layout = others.layout ∙ first.layout }
