-- From the same placement the same call has the same answer, and leads to the same placement.
use Rattle.std.specs.Prelude.{◌++◌, ◌&&◌, ◌==◌}
use mathlib.Core.Path.{ap₂}
use Rattle.std.proofs.Common.{◌≡◌, ℕ, ◌+◌, Bool, true, false, MatchBool, length, min, nat_le, take, drop, List, Option, Some, None, Ok, Err, Result, refl, sym}
use Rattle.std.proofs.Common.{◌∙◌, ap, subst}
use Rattle.std.proofs.lemmas.Option.{none-some, same_Some}
use Rattle.rlsf_base.specs.Addr.{at}
use Rattle.rlsf_model_sizes.specs.PowerOfTwo.{IsPowerOfTwo}
use Rattle.rlsf_base.specs.declared.memory.layout.Layout.{Layout}
use Rattle.rlsf_base.specs.declared.memory.range.Range.{Range}
use Rattle.rlsf_model.specs.Callers.{bytes_at}
use Rattle.rlsf_model.specs.FlexState.{AreFlexSimilar, FlexState, with_machine}
use Rattle.rlsf_model.specs.FlexWellFormed.{IsFlexWellFormed}
use Rattle.rlsf_model.specs.Run.{IsSomeLive, allocate as machine_allocates, deallocate as machine_deallocates, fill as machine_fills, reallocate as machine_reallocates}
use Rattle.rlsf_model.specs.FlexReallocate.{FlexReallocates}
use Rattle.rlsf_model.specs.Note.{Note, LeadsBy}
use Rattle.rlsf_model.proofs.Similar.{fill_is_similar, similar_states_agree}
use Rattle.rlsf_model.proofs.Steps.{steps_keep_well_formed}
use Rattle.rlsf_model.proofs.TrimmedSimilar.{AreSimilar-sym}
use Rattle.rlsf_model_global.specs.declared.error.GlobalError.{GlobalError}
use Rattle.rlsf_model_global.specs.declared.error.GlobalError.TheVariants.{NoRoom, OutOfRange, TableMemory}
use Rattle.rlsf_model_global.specs.Cursor.{PageCursor, terms_of, PageLeads}
use Rattle.rlsf_model_global.specs.Heap.{HaveSamePlacement, Heap}
use Rattle.rlsf_model_global.specs.History.{allocate, deallocate, deallocate_as, reallocate, reallocate_as, reallocate_there, read, usable, write}
use Rattle.rlsf_model_global.specs.Moves.{HeapMovesAway, ReallocatesAsAt, ReallocatesAt, ReallocatesThereAt, ReallocatesTo, Replaces, HeapResizesThere}
use Rattle.rlsf_model_global.specs.Replays.{LacksMemory, PlacementDetermines}
use Rattle.rlsf_model_global.specs.Rows.{Row, put, row_at, without_row}
use Rattle.rlsf_model_global.specs.Standing.{IsHeap}
use Rattle.rlsf_model_global.specs.Steps.{DeallocatesAsAt, DeallocatesAt, Done, HeapAllocates, Placed, ReadsAt, Releases, Takes, UsableAt, WritesAt, WritesIn, are_usable}
use Rattle.rlsf_model_global.proofs.StepLeavesFlex.{flex_goes}
use Rattle.rlsf_model_global.proofs.StepLeavesHeap.{row_lives}
use Rattle.rlsf_model_global.proofs.EqualNumbers.{same_address, same_layout}
use Rattle.rlsf_model_global.proofs.Similars.{AreSimilar-trans, flex_determined, lengths-same, same_placement-at, unmoved-similar}

-- by the result of a test of both
both : {A B A' B' C : Type 0} (b : Bool) → MatchBool b A B → MatchBool b A' B' → (A → A' → C) → (B → B' → C) → C
both true x y f g = f x y
both false x y f g = g x y

module _ {memory : Range} (h h' : Heap) (w : IsHeap memory h) (w' : IsHeap memory h') (r : HaveSamePlacement h h') where
  -- ---- the reference model's steps

  flexes : AreFlexSimilar h.flex h'.flex
  flexes = record { machine = r.machine; pools = r.pools; kept = r.kept }

  -- over one cursor
  whole : IsFlexWellFormed 64 64 memory (terms_of h.source) h'.flex
  whole = subst (λ (c : PageCursor). IsFlexWellFormed 64 64 memory (terms_of c) h'.flex) (sym r.source) w'.flex

  -- the entry of an address is one
  at_row : (P : Option Row → Type 0) (addr : ℕ) → P (row_at addr h'.asked) → P (row_at addr h.asked)
  at_row P addr = subst P (ap (row_at addr) (sym r.asked))

  took : (size align : ℕ) → IsPowerOfTwo align → (m n : Option ℕ) (u u' : FlexState) (y y' : PageCursor) → Takes h size align m u y → Takes h' size align n u' y'
      → (m ≡ n) × AreFlexSimilar u u' × (y ≡ y')
  took size align power m n u u' y y' (notes, step, led) b =
      let (notes', step', led') = rw (← r.source) at b in
      let answers = (flex_goes h.source y w.owed.cursor h.flex w.flex w.owed u notes led (machine_allocates size align m) tt power step).answers in
      let d =
      flex_determined h.source y y' h.flex h'.flex u u' w.flex whole flexes (machine_allocates size align m) (machine_allocates size align n) notes notes' answers led led' step
      step' (refl, refl) in
      let is = d.0 in
      let same : m ≡ n = cc in
      (same, d.1, d.2)

  resized : (addr size : ℕ) → IsSomeLive h.flex.machine addr → (m n : Option ℕ) (u u' : FlexState) (y y' : PageCursor)
      → ((notes : List Note) × FlexReallocates 64 64 (terms_of h.source) h.flex addr size m notes u × LeadsBy PageLeads h.source notes y)
      → ((notes : List Note) × FlexReallocates 64 64 (terms_of h'.source) h'.flex addr size n notes u' × LeadsBy PageLeads h'.source notes y')
      → (m ≡ n) × AreFlexSimilar u u' × (y ≡ y')
  resized addr size lives m n u u' y y' (notes, step, led) b =
      let (notes', step', led') = rw (← r.source) at b in
      let answers = (flex_goes h.source y w.owed.cursor h.flex w.flex w.owed u notes led (machine_reallocates addr size m) tt lives step).answers in
      let d =
      flex_determined h.source y y' h.flex h'.flex u u' w.flex whole flexes (machine_reallocates addr size m) (machine_reallocates addr size n) notes notes' answers led led'
      step step' (refl, refl) in
      let is = d.0 in
      let same : m ≡ n = cc in
      (same, d.1, d.2)

  -- a payload is moved into one that is allocated while it is live
  replaced : (addr keep keep' size align a b : ℕ) → IsPowerOfTwo align → (u u' : FlexState) (y y' : PageCursor) → Replaces h addr keep size align a u y
      → Replaces h' addr keep' size align b u' y'
      → (a ≡ b) × AreFlexSimilar u u' × (y ≡ y')
  replaced addr keep keep' size align a b power u u' y y' p q =
      let (same, near, now) = took size align power (Some a) (Some b) p.meanwhile q.meanwhile y y' p.takes q.takes in
      let (notes, step, led) = p.takes in
      let (notes', step', led') = q.takes in
      let one = flex_goes h.source y w.owed.cursor h.flex w.flex w.owed p.meanwhile notes led (machine_allocates size align (Some a)) tt power step in
      let one' = flex_goes h'.source y' w'.owed.cursor h'.flex w'.flex w'.owed q.meanwhile notes' led' (machine_allocates size align (Some b)) tt power step' in
      let bytes = (take keep (bytes_at p.meanwhile.machine addr) ++ drop keep (bytes_at p.meanwhile.machine a)) in
      let bytes' = (take keep' (bytes_at q.meanwhile.machine addr) ++ drop keep' (bytes_at q.meanwhile.machine b)) in
      let two = steps_keep_well_formed 64 64 memory p.meanwhile.machine p.copied (machine_fills a bytes) one.flex.machine (p.copies.block, p.copies.holds) p.copies in
      let two' = steps_keep_well_formed 64 64 memory q.meanwhile.machine q.copied (machine_fills b bytes') one'.flex.machine (q.copies.block, q.copies.holds) q.copies in
      let copied =
      AreSimilar-trans (AreSimilar-sym (fill_is_similar p.meanwhile.machine p.copied a bytes p.copies))
      (AreSimilar-trans near.machine (fill_is_similar q.meanwhile.machine q.copied b bytes' q.copies)) in
      let freed =
      (similar_states_agree 64 64 memory p.copied q.copied p.freed q.freed (machine_deallocates addr) (machine_deallocates addr) two two' copied p.frees q.frees refl).1 in (
        same_Some a b same,
        subst (λ (x : FlexState). AreFlexSimilar x u') (sym p.after)
            (subst (AreFlexSimilar (with_machine p.meanwhile p.freed)) (sym q.after) (record { machine = freed; pools = near.pools; kept = near.kept })),
        now,
      )

  -- ---- the heap's steps

  module _ (g g' : Heap) where
    -- both are as they were
    stay : g ≡ h → g' ≡ h' → HaveSamePlacement g g'
    stay e f = same_placement-at g g' e f r

    -- similar states over the same cursor, with the same entries
    joined : AreFlexSimilar g.flex g'.flex → g.source ≡ g'.source → g.asked ≡ g'.asked → HaveSamePlacement g g'
    joined near source asked = record { machine = near.machine; pools = near.pools; kept = near.kept; source = source; asked = asked }

    allocates : (layout : Layout) (m n : Placed) → HeapAllocates h layout m g → HeapAllocates h' layout n g' → (LacksMemory (allocate layout m) → ⊥)
        → (LacksMemory (allocate layout n) → ⊥) → (m ≡ n) × HaveSamePlacement g g'
    allocates layout (Ok a) (Ok b) s t p q =
        let (reply, near, now) = took layout.size layout.align layout.valid.aligned (Some (at a)) (Some (at b)) g.flex g'.flex g.source g'.source s.0 t.0 in
        let same : a ≡ b = same_address a b (same_Some (at a) (at b) reply) in
        (ap Ok same, joined near now (s.1 ∙ ap₂ (λ c l. put (c, layout) l) same r.asked ∙ sym t.1))
    allocates layout (Ok a) (Err NoRoom) s t p q =
        absurd (none-some (at a) (sym (took layout.size layout.align layout.valid.aligned (Some (at a)) None g.flex h'.flex g.source h'.source s.0 t.0).0))
    allocates layout (Err NoRoom) (Ok b) s t p q =
        absurd (none-some (at b) (took layout.size layout.align layout.valid.aligned None (Some (at b)) h.flex g'.flex h.source g'.source s.0 t.0).0)
    allocates layout (Err NoRoom) (Err NoRoom) s t p q = (refl, stay s.1 t.1)
    allocates layout (Err TableMemory) n s t p q = absurd (p tt)
    allocates layout m (Err TableMemory) s t p q = absurd (q tt)
    allocates layout m n s t p q = search

    releases : (addr : ℕ) → Releases h addr g → Releases h' addr g' → HaveSamePlacement g g'
    releases addr (m, step, after) (m', step', after') =
        let near =
        (similar_states_agree 64 64 memory h.flex.machine h'.flex.machine m m' (machine_deallocates addr) (machine_deallocates addr) w.flex.machine w'.flex.machine r.machine
        step step' refl).1 in
        same_placement-at g g' after after' (record { machine = near; pools = r.pools; kept = r.kept; source = r.source; asked = ap (without_row addr) r.asked })

    deallocates : (addr : ℕ) (o : Option Row) (m n : Done) → DeallocatesAt h addr o m g → DeallocatesAt h' addr o n g' → (m ≡ n) × HaveSamePlacement g g'
    deallocates addr None m n s t = (s.0 ∙ sym t.0, stay s.1 t.1)
    deallocates addr (Some row) m n s t = (s.0 ∙ sym t.0, releases addr s.1 t.1)

    deallocates_as : (addr : ℕ) (layout : Layout) (o : Option Row) (m n : Done) → DeallocatesAsAt h addr layout o m g → DeallocatesAsAt h' addr layout o n g'
        → (m ≡ n) × HaveSamePlacement g g'
    deallocates_as addr layout None m n s t = (s.0 ∙ sym t.0, stay s.1 t.1)
    deallocates_as addr layout (Some row) m n s t =
        both ((row.1.size == layout.size) && (row.1.align == layout.align)) s t (λ x y. (x.0 ∙ sym y.0, releases addr x.1 y.1)) (λ x y. (x.0 ∙ sym y.0, stay x.1 y.1))

    -- ---- a payload that gets another size

    moves_away : (addr keep keep' : ℕ) (wanted : Layout) (m n : Placed) → HeapMovesAway h addr keep wanted m g → HeapMovesAway h' addr keep' wanted n g'
        → (m ≡ n) × HaveSamePlacement g g'
    moves_away addr keep keep' wanted (Ok a) (Ok b) s t =
        let (reply, near, now) = replaced addr keep keep' wanted.size wanted.align (at a) (at b) wanted.valid.aligned g.flex g'.flex g.source g'.source s.0 t.0 in
        let same = same_address a b reply in
        (ap Ok same, joined near now (s.1 ∙ ap₂ (λ c l. put (c, wanted) (without_row addr l)) same r.asked ∙ sym t.1))
    moves_away addr keep keep' wanted (Ok a) (Err NoRoom) s t =
        absurd (none-some (at a) (sym (took wanted.size wanted.align wanted.valid.aligned (Some (at a)) None s.0.meanwhile h'.flex g.source h'.source s.0.takes t.0).0))
    moves_away addr keep keep' wanted (Err NoRoom) (Ok b) s t =
        absurd (none-some (at b) (took wanted.size wanted.align wanted.valid.aligned None (Some (at b)) h.flex t.0.meanwhile h.source g'.source s.0 t.0.takes).0)
    moves_away addr keep keep' wanted (Err NoRoom) (Err NoRoom) s t = (refl, stay s.1 t.1)
    moves_away addr keep keep' wanted m n s t = search

    resizes_to : (addr : ℕ) (wanted : Layout) → IsSomeLive h.flex.machine addr → (m n : Placed)
        → ReallocatesTo true h addr wanted wanted m g → ReallocatesTo true h' addr wanted wanted n g'
        → (m ≡ n) × HaveSamePlacement g g'
    resizes_to addr wanted lives (Ok a) (Ok b) s t =
        let (reply, near, now) = resized addr wanted.size lives (Some (at a)) (Some (at b)) g.flex g'.flex g.source g'.source s.0 t.0 in
        let same = same_address a b (same_Some (at a) (at b) reply) in
        (ap Ok same, joined near now (s.1 ∙ ap₂ (λ c l. put (c, wanted) (without_row addr l)) same r.asked ∙ sym t.1))
    resizes_to addr wanted lives (Ok a) (Err NoRoom) s t =
        absurd (none-some (at a) (sym (resized addr wanted.size lives (Some (at a)) None g.flex h'.flex g.source h'.source s.0 t.0).0))
    resizes_to addr wanted lives (Err NoRoom) (Ok b) s t = absurd (none-some (at b) (resized addr wanted.size lives None (Some (at b)) h.flex g'.flex h.source g'.source s.0 t.0).0)
    resizes_to addr wanted lives (Err NoRoom) (Err NoRoom) s t = (refl, stay s.1 t.1)
    resizes_to addr wanted lives m n s t = search

    resizes_there : (addr : ℕ) (wanted : Layout) (m n : Placed) → HeapResizesThere h addr wanted m g → HeapResizesThere h' addr wanted n g' → (m ≡ n) × HaveSamePlacement g g'
    resizes_there addr wanted (Ok a) (Ok b) (i, step, after) (j, step', after') =
        let (reply, near) = unmoved-similar w.flex.machine w'.flex.machine r.machine addr wanted.size (Some (at a)) (Some (at b)) i j step step' in
        let same = same_address a b (same_Some (at a) (at b) reply) in (
          ap Ok same,
          same_placement-at g g' after after'
              (record { machine = near; pools = r.pools; kept = r.kept; source = r.source; asked = ap₂ (λ c l. put (c, wanted) (without_row addr l)) same r.asked }),
        )
    resizes_there addr wanted (Ok a) (Err NoRoom) (i, step, after) t =
        absurd (none-some (at a) (sym (unmoved-similar w.flex.machine w'.flex.machine r.machine addr wanted.size (Some (at a)) None i h'.flex.machine step t.0).0))
    resizes_there addr wanted (Err NoRoom) (Ok b) s (j, step', after') =
        absurd (none-some (at b) (unmoved-similar w.flex.machine w'.flex.machine r.machine addr wanted.size None (Some (at b)) h.flex.machine j s.0 step').0)
    resizes_there addr wanted (Err NoRoom) (Err NoRoom) s t = (refl, stay s.1 t.1)
    resizes_there addr wanted m n s t = search

    reallocates_to : (enabled : Bool) (addr : ℕ) (layout wanted : Layout) → IsSomeLive h.flex.machine addr → (m n : Placed) → ReallocatesTo enabled h addr layout wanted m g
        → ReallocatesTo enabled h' addr layout wanted n g'
        → (m ≡ n) × HaveSamePlacement g g'
    reallocates_to true addr layout wanted lives m n s t = resizes_to addr wanted lives m n s t
    reallocates_to false addr layout wanted lives m n s t = moves_away addr (min layout.size wanted.size) (min layout.size wanted.size) wanted m n s t

    reallocates_as : (enabled : Bool) (addr : ℕ) (layout : Layout) (size : ℕ) (o : Option Row) (m n : Placed) → row_at addr h.asked ≡ o
        → ReallocatesAsAt enabled h addr layout size o m g
        → ReallocatesAsAt enabled h' addr layout size o n g' → (m ≡ n) × HaveSamePlacement g g'
    reallocates_as enabled addr layout size None m n there s t = (s.0 ∙ sym t.0, stay s.1 t.1)
    reallocates_as enabled addr layout size (Some row) m n there s t =
        both ((row.1.size == layout.size) && (row.1.align == layout.align)) s t
        (λ x y.
        let same = same_layout x.0 y.0 (x.1 ∙ sym y.1) (x.2 ∙ sym y.2) in
        reallocates_to enabled addr layout x.0 (row_lives h addr row w.lists there) m n x.3
        (subst (λ (l : Layout). ReallocatesTo enabled h' addr layout l n g') (sym same) y.3))
        (λ x y. (x.0 ∙ sym y.0, stay x.1 y.1))

    reallocates : (addr : ℕ) (wanted : Layout) (o : Option Row) (m n : Placed) → ReallocatesAt h addr wanted o m g → ReallocatesAt h' addr wanted o n g'
        → (m ≡ n) × HaveSamePlacement g g'
    reallocates addr wanted None m n s t = (s.0 ∙ sym t.0, stay s.1 t.1)
    reallocates addr wanted (Some row) m n s t =
        moves_away addr (min wanted.size (length (bytes_at h.flex.machine addr))) (min wanted.size (length (bytes_at h'.flex.machine addr))) wanted m n s t

    reallocates_there : (addr : ℕ) (layout : Layout) (size : ℕ) (o : Option Row) (m n : Placed) → ReallocatesThereAt h addr layout size o m g
        → ReallocatesThereAt h' addr layout size o n g'
        → (m ≡ n) × HaveSamePlacement g g'
    reallocates_there addr layout size None m n s t = (s.0 ∙ sym t.0, stay s.1 t.1)
    reallocates_there addr layout size (Some row) m n s t =
        both ((row.1.size == layout.size) && (row.1.align == layout.align)) s t
        (λ x y.
        let same = same_layout x.0 y.0 (x.1 ∙ sym y.1) (x.2 ∙ sym y.2) in
        resizes_there addr x.0 m n x.3 (subst (λ (l : Layout). HeapResizesThere h' addr l n g') (sym same) y.3))
        (λ x y. (x.0 ∙ sym y.0, stay x.1 y.1))

    -- ---- a payload that is read or written, or whose length is returned

    module _ (addr : ℕ) (row : Row) (there : row_at addr h.asked ≡ Some row) where
      lengths : length (bytes_at h.flex.machine addr) ≡ length (bytes_at h'.flex.machine addr)
      lengths =
          let (u, held) = row_lives h addr row w.lists there in
          let (v, held') = row_lives h' addr row w'.lists (ap (row_at addr) (sym r.asked) ∙ there) in
          lengths-same w.flex.machine w'.flex.machine r.machine addr u v held held'

      fits-same : (offset m n : ℕ) → m ≡ n → are_usable h' addr offset n ≡ are_usable h addr offset m
      fits-same offset m n same = ap₂ (λ i j. nat_le (offset + i) j) (sym same) (sym lengths)

    reads : (addr offset : ℕ) (lent lent' left left' : List ℕ) → length lent ≡ length lent' → (o : Option Row) (m n : Done) → row_at addr h.asked ≡ o
        → ReadsAt h addr offset lent o m left → ReadsAt h' addr offset lent' o n left' → m ≡ n
    reads addr offset lent lent' left left' same None m n there s t = s.0 ∙ sym t.0
    reads addr offset lent lent' left left' same (Some row) m n there s t =
        let A' = (n ≡ Ok tt) × (left' ≡ take (length lent') (drop offset (bytes_at h'.flex.machine addr))) in
        let B' = (n ≡ Err OutOfRange) × (left' ≡ lent') in
        both (are_usable h addr offset (length lent)) s (subst (λ b. MatchBool b A' B') (fits-same addr row there offset (length lent) (length lent') same) t)
        (λ x y. x.0 ∙ sym y.0) (λ x y. x.0 ∙ sym y.0)

    wrote : (addr offset : ℕ) (bytes bytes' : List ℕ) → WritesIn h addr offset bytes g → WritesIn h' addr offset bytes' g' → HaveSamePlacement g g'
    wrote addr offset bytes bytes' (i, step, after) (j, step', after') =
        let near = AreSimilar-trans (AreSimilar-sym (fill_is_similar h.flex.machine i addr _ step)) (AreSimilar-trans r.machine (fill_is_similar h'.flex.machine j addr _ step')) in
        same_placement-at g g' after after' (record { machine = near; pools = r.pools; kept = r.kept; source = r.source; asked = r.asked })

    writes : (addr offset : ℕ) (bytes bytes' : List ℕ) → length bytes ≡ length bytes' → (o : Option Row) (m n : Done) → row_at addr h.asked ≡ o
        → WritesAt h addr offset bytes o m g → WritesAt h' addr offset bytes' o n g'
        → (m ≡ n) × HaveSamePlacement g g'
    writes addr offset bytes bytes' same None m n there s t = (s.0 ∙ sym t.0, stay s.1 t.1)
    writes addr offset bytes bytes' same (Some row) m n there s t =
        let A' = (n ≡ Ok tt) × WritesIn h' addr offset bytes' g' in
        let B' = (n ≡ Err OutOfRange) × (g' ≡ h') in
        both (are_usable h addr offset (length bytes)) s (subst (λ b. MatchBool b A' B') (fits-same addr row there offset (length bytes) (length bytes') same) t)
        (λ x y. (x.0 ∙ sym y.0, wrote addr offset bytes bytes' x.1 y.1)) (λ x y. (x.0 ∙ sym y.0, stay x.1 y.1))

    usable_lengths : (addr : ℕ) (o : Option Row) (m n : Result ℕ GlobalError) → row_at addr h.asked ≡ o → UsableAt h addr o m → UsableAt h' addr o n → m ≡ n
    usable_lengths addr None m n there s t = s ∙ sym t
    usable_lengths addr (Some row) m n there s t = s ∙ ap Ok (lengths addr row there) ∙ sym t

-- ---- each step

pub placement_determines : PlacementDetermines
placement_determines memory h h' g g' (allocate layout m) (allocate layout' n) w w' r s t same p q =
    allocates h h' w w' r g g' layout m n s (subst (λ (l : Layout). HeapAllocates h' l n g') (sym same) t) p
    (subst (λ (l : Layout). LacksMemory (allocate l n) → ⊥) (sym same) q)
placement_determines memory h h' g g' (deallocate addr m) (deallocate addr' n) w w' r s t same p q =
    deallocates h h' w w' r g g' addr (row_at addr h.asked) m n s
    (at_row h h' w w' r (λ o. DeallocatesAt h' addr o n g') addr (subst (λ a. DeallocatesAt h' a (row_at a h'.asked) n g') (sym same) t))
placement_determines memory h h' g g' (deallocate_as addr layout m) (deallocate_as addr' layout' n) w w' r s t (same, alike) p q =
    deallocates_as h h' w w' r g g' addr layout (row_at addr h.asked) m n s
    (at_row h h' w w' r (λ o. DeallocatesAsAt h' addr layout o n g') addr
    (subst (λ a. DeallocatesAsAt h' a layout (row_at a h'.asked) n g') (sym same)
    (subst (λ (l : Layout). DeallocatesAsAt h' addr' l (row_at addr' h'.asked) n g') (sym alike) t)))
placement_determines memory h h' g g' (reallocate_as enabled addr layout size m) (reallocate_as enabled' addr' layout' size' n) w w' r s t (able, same, alike, long) p q =
    reallocates_as h h' w w' r g g' enabled addr layout size (row_at addr h.asked) m n refl s
    (at_row h h' w w' r (λ o. ReallocatesAsAt enabled h' addr layout size o n g') addr
    (subst (λ b. ReallocatesAsAt b h' addr layout size (row_at addr h'.asked) n g') (sym able)
    (subst (λ a. ReallocatesAsAt enabled' h' a layout size (row_at a h'.asked) n g') (sym same)
    (subst (λ (l : Layout). ReallocatesAsAt enabled' h' addr' l size (row_at addr' h'.asked) n g') (sym alike)
    (subst (λ i. ReallocatesAsAt enabled' h' addr' layout' i (row_at addr' h'.asked) n g') (sym long) t)))))
placement_determines memory h h' g g' (reallocate addr wanted m) (reallocate addr' wanted' n) w w' r s t (same, alike) p q =
    reallocates h h' w w' r g g' addr wanted (row_at addr h.asked) m n s
    (at_row h h' w w' r (λ o. ReallocatesAt h' addr wanted o n g') addr
    (subst (λ a. ReallocatesAt h' a wanted (row_at a h'.asked) n g') (sym same) (subst (λ (l : Layout). ReallocatesAt h' addr' l (row_at addr' h'.asked) n g') (sym alike) t)))
placement_determines memory h h' g g' (reallocate_there addr layout size m) (reallocate_there addr' layout' size' n) w w' r s t (same, alike, long) p q =
    reallocates_there h h' w w' r g g' addr layout size (row_at addr h.asked) m n s
    (at_row h h' w w' r (λ o. ReallocatesThereAt h' addr layout size o n g') addr
    (subst (λ a. ReallocatesThereAt h' a layout size (row_at a h'.asked) n g') (sym same)
    (subst (λ (l : Layout). ReallocatesThereAt h' addr' l size (row_at addr' h'.asked) n g') (sym alike)
    (subst (λ i. ReallocatesThereAt h' addr' layout' i (row_at addr' h'.asked) n g') (sym long) t))))
placement_determines memory h h' g g' (read addr offset lent m left) (read addr' offset' lent' n left') w w' r s t (same, from, long) p q = (
  reads h h' w w' r g g' addr offset lent lent' left left' long (row_at addr h.asked) m n refl s.0
      (at_row h h' w w' r (λ o. ReadsAt h' addr offset lent' o n left') addr
      (subst (λ a. ReadsAt h' a offset lent' (row_at a h'.asked) n left') (sym same) (subst (λ i. ReadsAt h' addr' i lent' (row_at addr' h'.asked) n left') (sym from) t.0))),
  same_placement-at g g' s.1 t.1 r,
)
placement_determines memory h h' g g' (write addr offset bytes m) (write addr' offset' bytes' n) w w' r s t (same, from, long) p q =
    writes h h' w w' r g g' addr offset bytes bytes' long (row_at addr h.asked) m n refl s
    (at_row h h' w w' r (λ o. WritesAt h' addr offset bytes' o n g') addr
    (subst (λ a. WritesAt h' a offset bytes' (row_at a h'.asked) n g') (sym same) (subst (λ i. WritesAt h' addr' i bytes' (row_at addr' h'.asked) n g') (sym from) t)))
placement_determines memory h h' g g' (usable addr m) (usable addr' n) w w' r s t same p q = (
  usable_lengths h h' w w' r g g' addr (row_at addr h.asked) m n refl s.0
      (at_row h h' w w' r (λ o. UsableAt h' addr o n) addr (subst (λ a. UsableAt h' a (row_at a h'.asked) n) (sym same) t.0)),
  same_placement-at g g' s.1 t.1 r,
)
placement_determines memory h h' g g' s s' w w' r a b same p q = absurd same
