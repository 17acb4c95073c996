-- A used block moves into the free block before it: what is computed on the way is as the reference model's plan has it.
use Rattle.std.specs.Option.{option_map_or}
use Rattle.std.proofs.Common.{◌≡◌, ℕ, ◌+◌, ◌-◌, ◌%◌, ◌^◌, ◌≤◌, ◌<◌, ◌⊎◌, List, None, length, arith, inr, sym, ◌∙◌, ap, subst, Option}
use mathlib.Core.Path.{ap₂}
use Rattle.rlsf_base.specs.declared.memory.range.Range.{Range}
use Rattle.rlsf_base.specs.Range.{end_of, LiesIn, range_at}
use Rattle.rlsf_base.specs.Space.{Space, bytes_in, with_bytes, with_word, word_range}
use Rattle.rlsf_base.specs.OpenSpace.{IsHere, IsOwned, IsWritable, out_with}
use Rattle.rlsf_base.proofs.Lending.Copied.{out_at-there}
use Rattle.rlsf_base.proofs.Lending.Present.{own-here, own-inside}
use Rattle.rlsf_model.specs.Join.{ends_at}
use Rattle.rlsf_model.specs.Lists.{IsIn, without}
use Rattle.rlsf_model.specs.Payload.{payload_of}
use Rattle.rlsf_model.specs.Reallocate.{in_place, into_previous}
use Rattle.rlsf_model.specs.State.{State, Used, usable}
use Rattle.rlsf_blocks.specs.StandsFor.{contents, StandsFor}
use Rattle.rlsf_blocks.specs.Steps.Join.{IsNextOut, IsPreviousOut, union, untouched}
use Rattle.rlsf_blocks.specs.Steps.Previous.{FitsBefore, IsUsedBlock}
use Rattle.rlsf_blocks.specs.Steps.Resize.{IsOccupied, IsPlanned, IsSpanRoom, IsUsedAt}
use Rattle.rlsf_blocks.specs.Steps.Rest.{IsInnerRoom}
use Rattle.rlsf_table.specs.Table.{Table}
use Rattle.rlsf_blocks.proofs.Deallocate.Releases.{before_at, behind_at, gone, IsInnerRoom-union, start_before, union_len, union_start}
use Rattle.rlsf_table.proofs.Words.Writes.{Writes, Writes-some}
use Rattle.rlsf_blocks.proofs.RepresentedStates.Counted.{KeepsSpare-counted_first}
use Rattle.rlsf_blocks.proofs.Words.Stays.{IsWritable-in, placed_by, placed_then, Stays, Stays-rewrites, Stays-same, Stays-then}
use Rattle.rlsf_blocks.proofs.Allocate.Rests.{IsSpanRoom-inner}
use Rattle.rlsf_blocks.proofs.Reallocate.Copies.{IsCopied, IsInnerRoom-copied, LiesIn-copied, Rewrites-copied}
use Rattle.rlsf_blocks.proofs.Reallocate.Moves.{IsSpan, span, payload_here, payload_placed, IsCarriedOut-moved}
use Rattle.rlsf_blocks.proofs.Reallocate.Neighbours.{start_or-le}
use Rattle.rlsf_blocks.proofs.Reallocate.Previous.{into_previous-fits, payload_of-order, planned, reach}
use Rattle.rlsf_blocks.proofs.Words.Apart.{usable_units}
use Rattle.rlsf_model_sizes.specs.Rounding.{round32}

-- the used block by its start and its end
pub IsUsedBlock-from : {s : State} {u : Used} {block end payload align : ℕ} → IsUsedAt s u block payload align → end_of u.block ≡ end → IsUsedBlock s u block end align
IsUsedBlock-from is end = record { is_used = is.is_used; start = is.start; end_is = end; alignment = is.alignment }

-- the payload of the used block from `block` to `end` fits before it, and its free neighbours are taken out
pub record AreOut (fllen sllen : ℕ) (first m : Space) (t : Table) (s : State) (u : Used) (block end payload align size to taken : ℕ) (m1 m2 : Space) (t1 t2 : Table)
    (start next : ℕ) : Type 0 where
  pub counts : (m.start ≡ first.start) × (m.bytes ≡ first.bytes) × (m.out ≡ first.out)
  pub stands : StandsFor fllen sllen (contents m t) s
  pub used : IsUsedAt s u block payload align
  pub is_end : end_of u.block ≡ end
  pub short : in_place s u size ≡ None
  pub here : IsHere m (usable u)
  pub plan : FitsBefore s u size to taken
  pub out : IsPreviousOut fllen sllen m m1 t1 s.free block start
  pub more : IsNextOut fllen sllen m1 m2 t2 (without (ends_at block) s.free) end next

module _ {fllen sllen : ℕ} {first m : Space} {t : Table} {s : State} {u : Used} {block end payload align size to taken : ℕ} {m1 m2 : Space} {t1 t2 : Table} {start next : ℕ}
    (are : AreOut fllen sllen first m t s u block end payload align size to taken m1 m2 t1 t2 start next) where
  v : StandsFor fllen sllen (contents m t) s
  v = are.stands

  i : IsIn u s.used
  i = are.used.is_used

  own : IsOwned m (usable u)
  own = own-here m (usable u) are.here

  length_of : taken ≡ round32 (payload_of are.plan.previous.start u.align - are.plan.previous.start + size)
  length_of = are.plan.long ∙ ap (λ p. round32 (p - are.plan.previous.start + size)) are.plan.placed

  fits : end_of (planned s u size are.plan.previous).block ≤ reach s u
  fits = omega (arith, are.plan.fits, length_of)

  spans : IsSpan v u i size are.plan.previous are.plan.found fits are.short
  spans = span v u i size are.plan.previous are.plan.found fits are.short

  pub payload_within : payload ≤ end
  payload_within = omega (arith, spans.within, are.is_end, are.used.caller)

  pub sixteen-le : 16 ≤ to
  sixteen-le = omega (arith, are.plan.placed, spans.after_start)

  usable_is : range_at payload (end - payload) ≡ usable u
  usable_is = ap₂ (λ p e. range_at p (e - p)) (sym are.used.caller) (sym are.is_end)

  before : IsPreviousOut fllen sllen m m1 t1 s.free u.block.start start
  before = before_at v u i are.used.start are.out

  behind : IsNextOut fllen sllen m1 m2 t2 (without (ends_at u.block.start) s.free) (end_of u.block) next
  behind = behind_at v u i are.used.start are.is_end are.more

  begins : start ≡ are.plan.previous.start
  begins = before.begins ∙ ap (λ (o : Option Range). option_map_or (λ f. f.start) o u.block.start) are.plan.found

  inner : IsInnerRoom fllen sllen m2 t2 (untouched u.block s.free) (union u.block s.free)
  inner = IsInnerRoom-union v u i before behind own

  placed : LiesIn (usable u) m2.start (length m2.bytes)
  placed = payload_placed v u i size are.plan.previous are.plan.found fits are.short before behind

  -- ---- the copy

  pub LiesIn-payload : LiesIn (range_at payload (end - payload)) m2.start (length m2.bytes)
  LiesIn-payload = subst (λ q. LiesIn q m2.start (length m2.bytes)) (sym usable_is) placed

  pub IsHere-payload : IsHere m2 (range_at payload (end - payload))
  IsHere-payload = subst (IsHere m2) (sym usable_is) (payload_here v u i size are.plan.previous are.plan.found fits are.short before behind are.here)

  pub LiesIn-moved : LiesIn (range_at to (end - payload)) m2.start (length m2.bytes)
  LiesIn-moved =
      let inside = inner.room.placed.lies_in in
      let same : end - payload ≡ (usable u).len = ap (λ q. q.len) usable_is in
      (omega (arith, inside.0, are.plan.placed, spans.start, spans.after_start), omega (arith, inside.1, same, are.plan.placed, spans.end, spans.enough, fits))

  pub IsOwned-moved : IsOwned m2 (range_at to (end - payload))
  IsOwned-moved =
      let same : end - payload ≡ (usable u).len = ap (λ q. q.len) usable_is in
      own-inside m2 (union u.block s.free) (range_at to (end - payload)) (omega (arith, are.plan.placed, spans.start, spans.after_start))
      (omega (arith, same, are.plan.placed, spans.end, spans.enough, fits)) inner.room.placed.own

  -- units of 16 bytes go to no later place
  pub are_units : ((end - payload) % 16 ≡ 0) × ((payload + (end - payload) ≤ to) ⊎ (to ≤ payload))
  are_units =
      let is = v.well_formed.used u i in
      let same : end - payload ≡ (usable u).len = ap (λ q. q.len) usable_is in
      let begin : are.plan.previous.start ≤ u.block.start = omega (arith, begins, start_or-le v.well_formed u.block.start before.begins) in
      let order = payload_of-order are.plan.previous.start u.block.start u.align is.power begin in
      (omega (arith, same, usable_units v.well_formed u i), inr (omega (arith, order, are.plan.placed, is.placed, are.used.caller)))

  -- ---- the bytes of all that was taken out

  pub union_begins : (union u.block s.free).start ≡ start
  union_begins = union_start v u i before behind

  pub total_is : (start ≤ end) × ((union u.block s.free).len ≡ end - start + next)
  total_is = (omega (arith, are.is_end, start_before v u i before behind), omega (arith, are.is_end, union_len v u i before behind))

  pub total-fits : end - start + next < 2 ^ 64
  total-fits = let inside = inner.room.placed.lies_in in omega (arith, total_is.1, inside, inner.room.list.addressable)

  pub start-fits : start < 2 ^ 64
  start-fits = let inside = inner.room.placed.lies_in in omega (arith, begins, spans.start, inside, inner.room.list.addressable)

  pub part : (taken % 32 ≡ 0) × (0 < taken) × (taken ≤ end - start + next)
  part = grind (arith, spans, length_of, fits, total_is)

  -- ---- the payload was copied

  module _ {m3 : Space} (same_start : m3.start ≡ m2.start) (copied : m3.bytes ≡ with_bytes m2 to (bytes_in m2 (range_at payload (end - payload))))
      (out : m3.out ≡ out_with m2 (range_at to (end - payload))) where
    IsCopied-computed : IsCopied m2 m3 (union u.block s.free) (usable u) (payload_of are.plan.previous.start u.align)
    IsCopied-computed = grind (arith, spans, placed, fits, usable_is)

    pub room : IsInnerRoom fllen sllen m3 t2 (untouched u.block s.free) (union u.block s.free)
    room = IsInnerRoom-copied (union u.block s.free) inner (usable u) (payload_of are.plan.previous.start u.align) IsCopied-computed

    -- and the block was made there
    module _ {m4 : Space} {t4 : Table}
        (made : (free : List Range) (whole : Range) → whole.start ≡ start → whole.len ≡ end - start + next → IsSpanRoom fllen sllen m3 t2 free whole taken
        → IsOccupied fllen sllen m3 m4 t4 free whole (range_at start taken)) where
      occupied : IsOccupied fllen sllen m3 m4 t4 (untouched u.block s.free) (union u.block s.free) (range_at start taken)
      occupied = made (untouched u.block s.free) (union u.block s.free) union_begins total_is.1 (IsSpanRoom-inner taken room)

      -- the word before the payload can be written
      pub IsWritable-pad : 32 ≤ align → IsWritable m4 (to - 8)
      IsWritable-pad wide =
          let is = spans in
          let inside = inner.room.placed.lies_in in
          let second = Rewrites-copied (union u.block s.free) inner (usable u) (payload_of are.plan.previous.start u.align) IsCopied-computed in
          let third = occupied.rewrites in
          let span = union u.block s.free in
          let low : span.start ≤ to - 8 = omega (arith, are.plan.placed, is.after_start, is.start) in
          let high : to - 8 + 8 ≤ end_of span = omega (arith, are.plan.placed, is.after_start, is.end, is.enough, fits) in
          let whole = is.wide (omega (arith, are.used.alignment)) in
          IsWritable-in (placed_then (placed_by second) (placed_by third)) span inside inner.room.placed.own (to - 8)
          (omega (arith, are.plan.placed, whole, is.after_start)) low high

      pub padded : (n : Space) → 32 ≤ align → n.start ≡ m4.start → n.bytes ≡ with_word m4 (to - 8) start → n.out ≡ out_with m4 (word_range (to - 8))
          → Writes m4 n (32 ≤ align) (to - 8) start
      padded n wide = Writes-some (32 ≤ align) wide (IsWritable-pad wide) start-fits

      -- with that word, where it is wanted
      module _ {n : Space} (named : Writes m4 n (32 ≤ align) (to - 8) start) where
        -- the plan is carried out
        pub moved_to : IsPlanned fllen sllen first n t4 s u (into_previous s u size) to
        moved_to =
            let f = are.plan.previous in
            let block = subst (IsOccupied fllen sllen m3 m4 t4 (untouched u.block s.free) (union u.block s.free)) (ap₂ range_at begins length_of) occupied in
            let wanted = subst (λ a. Writes m4 n (32 ≤ a) (to - 8) start) (sym are.used.alignment) named in
            let there = subst (λ p. Writes m4 n (32 ≤ u.align) (p - 8) start) are.plan.placed wanted in
            let begun = subst (λ b. Writes m4 n (32 ≤ u.align) (payload_of f.start u.align - 8) b) begins there in
            let (after, replans, now, spare) = IsCarriedOut-moved v u i size f are.plan.found fits are.short before behind own IsCopied-computed block begun in
            let kept = KeepsSpare-counted_first first m are.counts.0 are.counts.1 are.counts.2 s after n spare in
            (planned s u size f, into_previous-fits s u size f are.plan.found fits, sym are.plan.placed, (after, replans, now, kept))

        -- no byte leaves, and none that is here becomes raw
        pub stays_moved : Stays first n
        stays_moved =
            let copy = Rewrites-copied (union u.block s.free) inner (usable u) (payload_of are.plan.previous.start u.align) IsCopied-computed in
            let before_it = Stays-then (Stays-same first m are.counts.0 are.counts.2) (Stays-rewrites (gone v u i before behind)) in
            Stays-then before_it (Stays-then (Stays-rewrites copy) (Stays-then (Stays-rewrites occupied.rewrites) (Stays-rewrites named.rewrites)))

        -- as many bytes as the payload has are here at its new place
        pub here_moved : IsHere n (range_at to (usable u).len)
        here_moved a lo hi =
            let target = payload_of are.plan.previous.start u.align in
            let is = IsCopied-computed in
            let there = LiesIn-copied (union u.block s.free) inner (usable u) target is in
            named.rewrites.here a (omega (arith, occupied.rewrites.start, same_start, there, are.plan.placed))
            (occupied.rewrites.here a (omega (arith, same_start, there, are.plan.placed))
            (out_at-there m2 m3 (usable u) target is.placed there is.start is.bytes is.out a (omega (arith, are.plan.placed)) (omega (arith, are.plan.placed))))
