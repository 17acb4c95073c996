-- What reallocations leave.
use Rattle.std.proofs.Common.{◌≡◌, ◌≢◌, ℕ, ◌≤◌, Bool, true, false, cond, eqb, length, min, take, drop, List, [], Option, Some, None, Ok, arith, ◌++◌, ◌&&◌, ◌==◌}
use Rattle.std.proofs.Common.{refl, sym, ◌∙◌, ap, subst, inl}
use Rattle.std.proofs.lemmas.Bool.{and_parts, eqb-true}
use Rattle.std.proofs.lemmas.List.{length-take-le, take_at}
use Rattle.std.specs.Option.{option_map}
use Rattle.std.specs.declared.num.NonZeroUsize.{NonZeroUsize}
use Rattle.rlsf_base.specs.Addr.{at}
use Rattle.rlsf_base.specs.declared.memory.layout.Layout.{Layout}
use Rattle.rlsf_base.specs.declared.memory.range.Range.{Range}
use Rattle.rlsf_model.specs.Callers.{IsResizedInMap, align_at, bytes_at, payload_at}
use Rattle.rlsf_model.specs.FlexReallocate.{ReallocatesInRoom}
use Rattle.rlsf_model.specs.FlexState.{with_machine}
use Rattle.rlsf_model.specs.Note.{Note}
use Rattle.rlsf_model.specs.Reallocate.{Keeps}
use Rattle.rlsf_model.specs.Run.{reallocate as machine_reallocates}
use Rattle.rlsf_model.proofs.CallerWords.{bytes_at-told}
use Rattle.rlsf_model.proofs.NoMove.{unmoved_is_reallocated}
use Rattle.rlsf_model_global.specs.Heap.{Agrees, Heap, Lists, content_at, layout_at, with_state}
use Rattle.rlsf_model_global.specs.Left.{IsMoved, IsMovedTo, ReallocationAsLeaves, ReallocationLeaves, ReallocationThereLeaves, in_both}
use Rattle.rlsf_model_global.specs.Moves.{ReallocatesAsAt, ReallocatesAt, ReallocatesThereAt, ReallocatesTo, Replaces, HeapResizesThere}
use Rattle.rlsf_model_global.specs.Rows.{Row, put, row_at, without_row}
use Rattle.rlsf_model_global.specs.Standing.{IsHeap}
use Rattle.rlsf_model_global.specs.declared.error.GlobalError.TheVariants.{WrongLayout}
use Rattle.rlsf_model_global.proofs.StepLeavesFlex.{FlexGoes, flex_goes}
use Rattle.rlsf_model_global.proofs.StepLeavesHeap.{replacement, row_lives}
use Rattle.rlsf_model_global.proofs.Histories.{either}
use Rattle.rlsf_model_global.proofs.AddressesLeft.{no_layout, put_layout, refused_not}
use Rattle.rlsf_model_global.proofs.Maps.{row_at-put_other, row_at-without_here}

-- the first bytes of what was filled are those of the old payload
take-with_front : (n : ℕ) (new old : List ℕ) → n ≤ length new → take n (take n new ++ drop n old) ≡ take n new
take-with_front n new old short = take_at (take n new) (drop n old) n (length-take-le n new short)

-- where a payload moved from, no layout is listed
left_layout : (g : Heap) (addr : ℕ) (to : NonZeroUsize) (wanted : Layout) (rows : List Row) → g.asked ≡ put (to, wanted) (without_row addr rows) → at to ≢ addr
    → layout_at g addr ≡ None
unfolding layout_at
left_layout g addr to wanted rows asked off =
    ap (option_map (λ (r : Row). r.1))
    (ap (row_at addr) asked ∙ row_at-put_other (to, wanted) (without_row addr rows) addr (λ same. off (sym same)) ∙ row_at-without_here addr rows)

-- the entry's size is usable
row_size : (h : Heap) (addr : ℕ) (row : Row) → Lists h.asked h.flex.machine → row_at addr h.asked ≡ Some row → row.1.size ≤ length (bytes_at h.flex.machine addr)
row_size h addr row lists there = (subst (λ o. Agrees o (align_at h.flex.machine addr) (bytes_at h.flex.machine addr)) there (lists addr)).1

-- and one size
pub is_same-size : (a b : Layout) → ((a.size == b.size) && (a.align == b.align)) ≡ true → a.size ≡ b.size
is_same-size a b e = eqb-true a.size b.size (and_parts (eqb a.size b.size) (eqb a.align b.align) e).0

module _ {memory : Range} (h : Heap) (w : IsHeap memory h) (addr : ℕ) (row : Row) (there : row_at addr h.asked ≡ Some row) (to : NonZeroUsize) (wanted : Layout) where
  -- by the reference model
  resized_moved : (g : Heap) → g.asked ≡ put (to, wanted) (without_row addr h.asked) → (notes : List Note)
      → FlexGoes memory h.source h.flex (machine_reallocates addr wanted.size (Some (at to))) notes g.source g.flex
      → IsMoved h g addr (at to) (in_both h g addr (at to)) wanted
  unfolding content_at
  resized_moved g asked notes is =
      let r : IsResizedInMap (payload_at h.flex.machine) addr wanted.size (at to) (payload_at g.flex.machine) = is.changes in
      let was : bytes_at h.flex.machine addr ≡ r.old.bytes = bytes_at-told h.flex.machine addr r.old r.was in
      let now : bytes_at g.flex.machine (at to) ≡ r.now.bytes = bytes_at-told g.flex.machine (at to) r.now r.here in
      record {
        layout = put_layout g to wanted (without_row addr h.asked) asked;
        bytes = subst (λ l. Keeps l (bytes_at g.flex.machine (at to))) (sym was) (subst (Keeps r.old.bytes) (sym now) r.kept);
        new = λ off. no_layout h (at to) w.lists (r.new off);
        gone = left_layout g addr to wanted h.asked asked;
      }

  -- into a payload that was allocated while the old one is live
  replaced_moved : (g : Heap) → g.asked ≡ put (to, wanted) (without_row addr h.asked) → (keep : ℕ) → keep ≤ length (bytes_at h.flex.machine addr)
      → Replaces h addr keep wanted.size wanted.align (at to) g.flex g.source
      → (at to ≢ addr) × IsMoved h g addr (at to) keep wanted
  unfolding content_at
  replaced_moved g asked keep short step =
      let is = replacement h w addr row there g.flex g.source (at to) keep wanted step in
      let now : bytes_at g.flex.machine (at to) ≡ take keep (bytes_at h.flex.machine addr) ++ drop keep is.rest =
      bytes_at-told g.flex.machine (at to) is.now is.here ∙ is.bytes in (
        is.apart,
        record {
          layout = put_layout g to wanted (without_row addr h.asked) asked;
          bytes = ap (take keep) now ∙ take-with_front keep (bytes_at h.flex.machine addr) is.rest short;
          new = λ off. no_layout h (at to) w.lists is.new;
          gone = left_layout g addr to wanted h.asked asked;
        },
      )

  -- in place
  there_moved : (g : Heap) → HeapResizesThere h addr wanted (Ok to) g → (at to ≡ addr) × IsMoved h g addr (at to) (in_both h g addr (at to)) wanted
  there_moved g (m, did, after) =
      let u = with_machine h.flex m in
      let (same, step) = (unmoved_is_reallocated 64 h.flex.machine m addr wanted.size (Some (at to)) did).0 in
      let room : ReallocatesInRoom 64 h.flex addr wanted.size (at to) [] u = record { machine = m; reallocates = step; none = refl; after = refl } in
      let x = with_state h m (put (to, wanted) (without_row addr h.asked)) in (
        same,
        subst (λ (y : Heap). IsMoved h y addr (at to) (in_both h y addr (at to)) wanted) (sym after)
            (resized_moved x refl []
            (flex_goes h.source h.source w.owed.cursor h.flex w.flex w.owed u [] refl (machine_reallocates addr wanted.size (Some (at to))) tt
            (row_lives h addr row w.lists there) (inl room))),
      )

pub reallocation_leaves : ReallocationLeaves
unfolding content_at
reallocation_leaves memory h g addr wanted to w step = go (row_at addr h.asked) refl step
  where
    keep : ℕ
    keep = min wanted.size (length (bytes_at h.flex.machine addr))

    go : (o : Option Row) → row_at addr h.asked ≡ o → ReallocatesAt h addr wanted o (Ok to) g → (at to ≢ addr) × IsMoved h g addr (at to) keep wanted
    go None there step = refused_not to _ step.0
    go (Some row) there (step, asked) = replaced_moved h w addr row there to wanted g asked keep (omega arith) step

pub reallocation_there_leaves : ReallocationThereLeaves
reallocation_there_leaves memory h g addr layout n to w step = go (row_at addr h.asked) refl step
  where
    go : (o : Option Row) → row_at addr h.asked ≡ o → ReallocatesThereAt h addr layout n o (Ok to) g
        → (at to ≡ addr) × IsMovedTo h g addr (at to) (in_both h g addr (at to)) layout n
    go None there step = refused_not to _ step.0
    go (Some row) there step =
        either ((row.1.size == layout.size) && (row.1.align == layout.align)) step
        (λ e did. let (same, moved) = there_moved h w addr row there to did.0 g did.3 in (same, (did.0, did.1, did.2, moved)))
        (λ e did. refused_not to WrongLayout did.0)

pub reallocation_as_leaves : ReallocationAsLeaves
reallocation_as_leaves memory enabled h g addr layout n to w step = go (row_at addr h.asked) refl step
  where
    made : (b : Bool) (row : Row) → row_at addr h.asked ≡ Some row → row.1.size ≡ layout.size → (wanted : Layout) → wanted.size ≡ n
        → ReallocatesTo b h addr layout wanted (Ok to) g
        → IsMoved h g addr (at to) (cond b (in_both h g addr (at to)) (min layout.size n)) wanted
    made true row there same wanted size ((notes, step, led), asked) =
        resized_moved h w addr row there to wanted g asked notes
        (flex_goes h.source g.source w.owed.cursor h.flex w.flex w.owed g.flex notes led (machine_reallocates addr wanted.size (Some (at to))) tt
        (row_lives h addr row w.lists there) step)
    made false row there same wanted size (step, asked) =
        subst (λ i. IsMoved h g addr (at to) (min layout.size i) wanted) size
        (replaced_moved h w addr row there to wanted g asked (min layout.size wanted.size) (omega (arith, row_size h addr row w.lists there, same)) step).1

    go : (o : Option Row) → row_at addr h.asked ≡ o → ReallocatesAsAt enabled h addr layout n o (Ok to) g
        → IsMovedTo h g addr (at to) (cond enabled (in_both h g addr (at to)) (min layout.size n)) layout n
    go None there step = refused_not to _ step.0
    go (Some row) there step =
        either ((row.1.size == layout.size) && (row.1.align == layout.align)) step
        (λ e did. (did.0, did.1, did.2, made enabled row there (is_same-size row.1 layout e) did.0 did.1 did.3))
        (λ e did. refused_not to WrongLayout did.0)
