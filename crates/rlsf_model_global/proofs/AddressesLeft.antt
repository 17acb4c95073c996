-- What steps leave at the addresses that they name.
use Rattle.std.proofs.Common.{◌≡◌, ℕ, ◌+◌, ◌%◌, ◌<◌, ◌≤◌, length, take, drop, List, Option, Some, None, Result, Ok, Err, arith, refl, sym, ◌∙◌, ap, [], ◌&&◌, ◌==◌}
use Rattle.std.proofs.Common.{subst, inl, inr}
use Rattle.std.proofs.lemmas.Bool.{cases_eq}
use Rattle.std.proofs.lemmas.Option.{none-some, same_Some}
use Rattle.std.specs.List.{splice}
use Rattle.std.specs.Option.{option_map, option_map_or}
use Rattle.std.specs.declared.num.NonZeroUsize.{NonZeroUsize}
use Rattle.rlsf_base.specs.Addr.{at}
use Rattle.rlsf_base.specs.declared.memory.layout.Layout.{Layout}
use Rattle.rlsf_model.specs.Callers.{Payload, align_at, bytes_at, payload_at}
use Rattle.rlsf_model.specs.Run.{allocate as machine_allocates}
use Rattle.rlsf_model.specs.State.{Holds, Used, usable}
use Rattle.rlsf_model.specs.WellFormed.{covers}
use Rattle.rlsf_model.proofs.CallerWords.{align_at-live, filled_seen}
use Rattle.rlsf_model.proofs.Callers.{payload_at-has}
use Rattle.rlsf_model.proofs.Coverage.{covers-inside}
use Rattle.rlsf_model.proofs.Live.{live_addresses_are_aligned, payloads_are_disjoint}
use Rattle.rlsf_model_global.specs.Heap.{Agrees, Heap, Lists, content_at, layout_at}
use Rattle.rlsf_model_global.specs.Left.{AllocationLeaves, DeallocationLeaves, HasByte, HeapPayloadsAreApart, PayloadsServe, ReadTells, WriteLeaves}
use Rattle.rlsf_model_global.specs.Rows.{Row, put, row_at}
use Rattle.rlsf_model_global.specs.Steps.{DeallocatesAt, DeallocatesAsAt, ReadsAt, Releases, WritesAt, WritesIn, are_usable}
use Rattle.rlsf_model_global.specs.declared.error.GlobalError.TheVariants.{OutOfRange, WrongLayout}
use Rattle.rlsf_model_global.proofs.StepLeavesFlex.{flex_goes}
use Rattle.rlsf_model_global.proofs.StepLeavesHeap.{no_row}
use Rattle.rlsf_model_global.proofs.Histories.{either}
use Rattle.rlsf_model_global.proofs.Maps.{row_at-put_here, row_at-without_here}

-- ---- what lives in a heap

-- an entry is where a layout is listed
listed_row : (h : Heap) (a : ℕ) (layout : Layout) → layout_at h a ≡ Some layout → (row : Row) × (row_at a h.asked ≡ Some row) × (row.1 ≡ layout)
unfolding layout_at
listed_row h a layout is = go (row_at a h.asked) refl is
  where
    go : (o : Option Row) → row_at a h.asked ≡ o → option_map (λ (r : Row). r.1) o ≡ Some layout → (row : Row) × (row_at a h.asked ≡ Some row) × (row.1 ≡ layout)
    go None there told = absurd (none-some layout told)
    go (Some row) there told = (row, there, same_Some row.1 layout told)

pub payloads_serve : PayloadsServe
unfolding content_at
payloads_serve memory h a layout w is =
    let (row, there, same) = listed_row h a layout is in
    let (live, enough, few) = subst (λ o. Agrees o (align_at h.flex.machine a) (bytes_at h.flex.machine a)) there (w.lists a) in
    let align = live_addresses_are_aligned 64 64 memory h.flex.machine a row.1.align w.flex.machine (align_at-live h.flex.machine a row.1.align live) in
    record {
      enough = subst (λ (l : Layout). l.size ≤ length (bytes_at h.flex.machine a)) same enough;
      few = subst (λ (l : Layout). length (bytes_at h.flex.machine a) < l.size + 32) same few;
      aligned = subst (λ (l : Layout). a % l.align ≡ 0) same align;
    }

-- a payload that has a byte is that of a used block
block_of_byte : (h : Heap) (a x : ℕ) → HasByte h a x → (u : Used) × Holds h.flex.machine a u × (length u.bytes ≡ length (content_at h a))
unfolding content_at bytes_at
block_of_byte h a x has = go (payload_at h.flex.machine a) refl has
  where
    go : (o : Option Payload) → payload_at h.flex.machine a ≡ o → (a ≤ x) × (x < a + length (option_map_or (λ p. p.bytes) (payload_at h.flex.machine a) []))
        → (u : Used) × Holds h.flex.machine a u × (length u.bytes ≡ length (option_map_or (λ p. p.bytes) (payload_at h.flex.machine a) []))
    go None told (low, high) =
        let none : length (option_map_or (λ p. p.bytes) (payload_at h.flex.machine a) []) ≡ 0 =
        ap (λ o. length (option_map_or (λ p. p.bytes) o [])) told in absurd (omega arith)
    go (Some p) told has =
        let (u, held, is) = payload_at-has h.flex.machine a p told in
        (u, held, ap (λ (q : Payload). length q.bytes) is ∙ ap (λ o. length (option_map_or (λ p. p.bytes) o [])) (sym told))

pub payloads_are_apart : HeapPayloadsAreApart
payloads_are_apart memory h a b x w has has' = elim (cases_eq a b) [
  | inl same ↦ same
  | inr apart ↦
      let (u, held, long) = block_of_byte h a x has in
      let (v, held', long') = block_of_byte h b x has' in
      let once = payloads_are_disjoint 64 64 memory h.flex.machine u v x w.flex.machine held.0 held'.0 (λ same. apart (sym held.1 ∙ same ∙ held'.1)) in
      let one : covers (usable u) x ≡ 1 = covers-inside (usable u) x (omega (arith, has.0, held.1)) (omega (arith, has.1, held.1, long, (w.flex.machine.used u held.0).bytes)) in
      let two : covers (usable v) x ≡ 1 =
      covers-inside (usable v) x (omega (arith, has'.0, held'.1)) (omega (arith, has'.1, held'.1, long', (w.flex.machine.used v held'.0).bytes)) in
      absurd (omega (arith, once, one, two))
]

-- ---- allocations, deallocations, writes and reads

-- where no payload is, no layout is listed
pub no_layout : (h : Heap) (a : ℕ) → Lists h.asked h.flex.machine → payload_at h.flex.machine a ≡ None → layout_at h a ≡ None
unfolding layout_at
no_layout h a lists none = ap (option_map (λ (r : Row). r.1)) (no_row h a lists none)

-- the layout of an entry that was put
pub put_layout : (g : Heap) (to : NonZeroUsize) (wanted : Layout) (rows : List Row) → g.asked ≡ put (to, wanted) rows → layout_at g (at to) ≡ Some wanted
unfolding layout_at
put_layout g to wanted rows asked = ap (option_map (λ (r : Row). r.1)) (ap (row_at (at to)) asked ∙ row_at-put_here (to, wanted) rows)

pub allocation_leaves : AllocationLeaves
allocation_leaves memory h g layout addr w ((notes, step, led), asked) =
    let is =
    flex_goes h.source g.source w.owed.cursor h.flex w.flex w.owed g.flex notes led (machine_allocates layout.size layout.align (Some (at addr))) tt layout.valid.aligned
    step in
    (no_layout h (at addr) w.lists is.changes.1, put_layout g addr layout h.asked asked)

released_leaves : (h g : Heap) (addr : ℕ) → Releases h addr g → layout_at g addr ≡ None
unfolding layout_at
released_leaves h g addr (m, step, after) =
    ap (λ (x : Heap). option_map (λ (r : Row). r.1) (row_at addr x.asked)) after ∙ ap (option_map (λ (r : Row). r.1)) (row_at-without_here addr h.asked)

-- a call that succeeded wasn't refused
pub refused_not : {A B X : Type 0} (a : A) (b : B) → ◌≡◌ {A = Result A B} (Ok a) (Err b) → X
refused_not a b e = absurd (cc)

pub deallocation_leaves : DeallocationLeaves
deallocation_leaves h g addr layout = (plain (row_at addr h.asked), checked (row_at addr h.asked))
  where
    plain : (o : Option Row) → DeallocatesAt h addr o (Ok tt) g → layout_at g addr ≡ None
    plain None step = refused_not tt _ step.0
    plain (Some row) step = released_leaves h g addr step.1

    checked : (o : Option Row) → DeallocatesAsAt h addr layout o (Ok tt) g → layout_at g addr ≡ None
    checked None step = refused_not tt _ step.0
    checked (Some row) step =
        either ((row.1.size == layout.size) && (row.1.align == layout.align)) step (λ e did. released_leaves h g addr did.1) (λ e did. refused_not tt WrongLayout did.0)

pub write_leaves : WriteLeaves
unfolding content_at layout_at
write_leaves memory h g addr offset bytes w step = go (row_at addr h.asked) step
  where
    now : List ℕ
    now = splice (bytes_at h.flex.machine addr) offset (offset + length bytes) bytes

    wrote : WritesIn h addr offset bytes g
        → (bytes_at g.flex.machine addr ≡ now) × (option_map (λ (r : Row). r.1) (row_at addr g.asked) ≡ option_map (λ (r : Row). r.1) (row_at addr h.asked))
    wrote (m, fills, after) = (
      ap (λ (x : Heap). bytes_at x.flex.machine addr) after ∙ (filled_seen w.flex.machine m addr now fills).here,
      ap (λ (x : Heap). option_map (λ (r : Row). r.1) (row_at addr x.asked)) after,
    )

    go : (o : Option Row) → WritesAt h addr offset bytes o (Ok tt) g
        → (bytes_at g.flex.machine addr ≡ now) × (option_map (λ (r : Row). r.1) (row_at addr g.asked) ≡ option_map (λ (r : Row). r.1) (row_at addr h.asked))
    go None step = refused_not tt _ step.0
    go (Some row) step =
        either (are_usable h addr offset (length bytes)) step (λ e did. wrote did.1) (λ e did. refused_not tt OutOfRange did.0)

pub read_tells : ReadTells
unfolding content_at
read_tells h g addr offset lent left step = go (row_at addr h.asked) step.0
  where
    told : List ℕ
    told = take (length lent) (drop offset (bytes_at h.flex.machine addr))

    go : (o : Option Row) → ReadsAt h addr offset lent o (Ok tt) left → left ≡ told
    go None step = refused_not tt _ step.0
    go (Some row) step =
        either (are_usable h addr offset (length lent)) step (λ e did. did.1) (λ e did. refused_not tt OutOfRange did.0)
