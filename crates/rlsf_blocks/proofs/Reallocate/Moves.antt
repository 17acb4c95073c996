-- A used block moved into the free block before it: the value represents the planned state.
use Rattle.std.specs.Option.{option_map_or}
use Rattle.std.proofs.Common.{◌≡◌, ◌≢◌, ℕ, leb, ◌+◌, ◌-◌, ◌%◌, ◌≤◌, ◌<◌, ◌⊎◌, List, ◌++◌, Some, None, find, length, take, Option}
use Rattle.std.proofs.Common.{drop, min, arith, inl, inr, refl, sym, ◌∙◌, ap, subst}
use mathlib.Core.Path.{ap₂}
use Rattle.std.proofs.lemmas.Bool.{leb-false}
use Rattle.std.proofs.lemmas.List.{take-take, take_all}
use Rattle.std.proofs.Math.Nat.{min-eq_left}
use Rattle.rlsf_base.specs.declared.memory.range.Range.{Range}
use Rattle.rlsf_base.specs.Range.{end_of, LiesIn, range_at}
use Rattle.rlsf_base.specs.Space.{Space, bytes_in, range_of, word_at}
use Rattle.rlsf_base.specs.OpenSpace.{IsHere, IsOwned}
use Rattle.rlsf_base.proofs.Lending.Present.{own-there}
use Rattle.rlsf_base.proofs.Lending.Copied.{bytes_in-copied, word_at-with_bytes}
use Rattle.rlsf_model.specs.Allocate.{rest_behind}
use Rattle.rlsf_model.specs.Join.{ends_at}
use Rattle.rlsf_model.specs.Lists.{IsIn, without}
use Rattle.rlsf_model.specs.Payload.{payload_of}
use Rattle.rlsf_model.specs.Reallocate.{Keeps, in_place}
use Rattle.rlsf_model.specs.State.{State, Used, between, usable}
use Rattle.rlsf_model.specs.WellFormed.{IsWellFormed}
use Rattle.rlsf_model.proofs.Changes.{IsIn-others, IsIn-rest_behind}
use Rattle.rlsf_model.proofs.Coverage.{by_test, IsIn-append}
use Rattle.rlsf_model.proofs.Joins.{IsSound-without, left_of, right_of}
use Rattle.rlsf_model.proofs.Payloads.{IsUsed-after_start, IsUsed-some, payload_of-after, payload_of-aligned}
use Rattle.rlsf_model.proofs.Plans.{IsSoundPlan, IsSound-into_previous, IsWellFormed-replanned}
use Rattle.rlsf_model.proofs.Releases.{IsSound-free, IsWellFormed-released}
use Rattle.rlsf_blocks.specs.StandsFor.{contents, OwnsChunks, StandsFor}
use Rattle.rlsf_table.specs.Rewrites.{IsLink, CanBeBlock, Rewrites}
use Rattle.rlsf_blocks.specs.Steps.Touched.{Touched, at_link, in_hole}
use Rattle.rlsf_blocks.specs.Steps.Join.{IsNextOut, IsPreviousOut, union, untouched}
use Rattle.rlsf_blocks.specs.Steps.Resize.{IsCarriedOut, IsOccupied}
use Rattle.rlsf_table.specs.Table.{Table, HasTable}
use Rattle.rlsf_blocks.proofs.Allocate.Placements.{length-bytes_in}
use Rattle.rlsf_blocks.proofs.Deallocate.Releases.{gone, home, is_free, IsInnerRoom-union, untouched_apart, was_free}
use Rattle.rlsf_table.proofs.Tables.FreeTables.{HasTable-Rewrites}
use Rattle.rlsf_table.proofs.Words.Writes.{before_links, Rewrites-trans, Rewrites-weaken, Writes}
use Rattle.rlsf_blocks.proofs.Reallocate.Copies.{IsCopied, IsInside, LiesIn-copied, Rewrites-copied}
use Rattle.rlsf_blocks.proofs.Reallocate.Previous.{into_previous-fits, planned, reach}
use Rattle.rlsf_blocks.proofs.Words.Apart.{used_free, free_in_memory, used_in_memory}
use Rattle.rlsf_blocks.proofs.Words.Frames.{sides}
use Rattle.rlsf_model.proofs.RangeLengths.{wide_whole}
use Rattle.rlsf_model.proofs.Names.{moved, replanned}
use Rattle.rlsf_blocks.proofs.Words.NeverOut.{here_free-in, here_released}
use Rattle.rlsf_blocks.proofs.Words.Refilled.{Touched-joined, IsUsedStill, old_used, new_used, IsFreeStill, old_free, new_free, IsRefilled, StandsFor-refilled, KeepsSpare-refilled}

-- a block that is too short to grow in place has fewer bytes than its payload is to have
in_place-short : (s : State) (u : Used) (size : ℕ) → u.block.len % 32 ≡ 0 → u.block.start ≤ u.payload → in_place s u size ≡ None → end_of u.block < u.payload + size
in_place-short s u size whole after none = grind (arith, by_test, leb, none, leb-false)

module _ {fllen sllen : ℕ} {m : Space} {t : Table} {s : State} (v : StandsFor fllen sllen (contents m t) s) (u : Used) (i : IsIn u s.used) (size : ℕ) (f : Range)
    (found : find (ends_at u.block.start) s.free ≡ Some f) (fits : end_of (planned s u size f).block ≤ reach s u) (short : in_place s u size ≡ None) where
  sound : IsSoundPlan s u size (planned s u size f)
  sound = IsSound-into_previous v.well_formed u i size (planned s u size f) (into_previous-fits s u size f found fits)

  -- where the block and its payload lie in the bytes of all three
  pub record IsSpan : Type 0 where
    pub start : (union u.block s.free).start ≡ f.start
    pub end : end_of (union u.block s.free) ≡ reach s u
    pub whole : f.start % 32 ≡ 0
    pub granules : (planned s u size f).block.len % 32 ≡ 0
    pub after_start : f.start + 16 ≤ payload_of f.start u.align
    pub enough : payload_of f.start u.align + (usable u).len ≤ end_of (planned s u size f).block
    pub within : u.payload ≤ end_of u.block
    pub wide : 32 ≤ u.align → payload_of f.start u.align % 32 ≡ 0

  pub span : IsSpan
  span =
      let is = v.well_formed.used u i in
      let base = IsSound-free v.well_formed in
      let right =
      right_of (end_of u.block) (without (ends_at u.block.start) s.free) (omega (arith, is.whole.start, is.whole.len)) (IsSound-without (ends_at u.block.start) s.free base) in
      let begin : option_map_or (λ f. f.start) (find (ends_at u.block.start) s.free) u.block.start ≡ f.start =
      ap (λ (o : Option Range). option_map_or (λ f. f.start) o u.block.start) found in
      let more = in_place-short s u size is.whole.len (omega (arith, IsUsed-after_start u is)) short in
      record {
        start = begin;
        end = omega (arith, (left_of u.block.start s.free is.whole.start base).order, right.order);
        whole = sound.whole.start;
        granules = sound.whole.len;
        after_start = payload_of-after f.start u.align;
        enough = omega (arith, sound.enough, sound.within, more);
        within = is.within;
        wide = λ w. wide_whole (payload_of f.start u.align) u.align is.power w (payload_of-aligned f.start u.align is.power);
      }

  -- the free blocks before it and behind it were taken out
  module _ {m1 m2 : Space} {t1 t2 : Table} {start next : ℕ} (before : IsPreviousOut fllen sllen m m1 t1 s.free u.block.start start)
      (behind : IsNextOut fllen sllen m1 m2 t2 (without (ends_at u.block.start) s.free) (end_of u.block) next) where
    -- the payload lies in the memory, with its bytes
    pub payload_placed : LiesIn (usable u) m2.start (length m2.bytes)
    payload_placed =
        let place = used_in_memory v.well_formed u i in
        let same = gone v u i before behind in
        (omega (arith, place.0, same.start, IsUsed-after_start u (v.well_formed.used u i)), omega (arith, place.1, same.start, same.length, (v.well_formed.used u i).within))

    -- which are here
    pub payload_here : IsHere m (usable u) → IsHere m2 (usable u)
    payload_here here a lo hi =
        (gone v u i before behind).here a (omega (arith, (used_in_memory v.well_formed u i).0, IsUsed-after_start u (v.well_formed.used u i))) (here a lo hi)

    payload_kept : bytes_in m2 (usable u) ≡ u.bytes
    payload_kept =
        let is = v.well_formed.used u i in
        (gone v u i before behind).bytes (usable u) (omega (arith, (used_in_memory v.well_formed u i).0, IsUsed-after_start u is)) apart ∙ v.payloads.bytes u i
      where
        apart : (a : ℕ) → IsLink s.free a → (end_of (usable u) ≤ a) ⊎ (a + 8 ≤ u.payload)
        apart a (g, j, at) =
            let is = v.well_formed.used u i in
            let free = v.well_formed.free g j in
            let inside : (g.start + 16 ≤ a) × (a + 8 ≤ end_of g) =
            elim at [ inl here ↦ (omega arith, omega (arith, free.some, free.whole.len)) | inr here ↦ (omega arith, omega (arith, free.some, free.whole.len)) ] in
            elim (sides u.block g (IsUsed-some u is) free.some (λ b hu hg. used_free v.well_formed u g b i j hu hg)) [
              | inl first ↦ inl (omega (arith, first, inside.0, is.within))
              | inr last ↦ inr (omega (arith, last, inside.1, IsUsed-after_start u is))
            ]

    -- the payload was copied, and the block's words were written
    module _ {m3 m4 n : Space} {t4 : Table} (own : IsOwned m (usable u)) (copied : IsCopied m2 m3 (union u.block s.free) (usable u) (payload_of f.start u.align))
        (occupied : IsOccupied fllen sllen m3 m4 t4 (untouched u.block s.free) (union u.block s.free) (planned s u size f).block)
        (padded : Writes m4 n (32 ≤ u.align) (payload_of f.start u.align - 8) f.start) where
      rewrites : Rewrites m n (Touched s.free (union u.block s.free) (end_of (union u.block s.free) + 8))
      rewrites =
          let copy = Rewrites-copied (union u.block s.free) (IsInnerRoom-union v u i before behind own) (usable u) (payload_of f.start u.align) copied in
          Rewrites-weaken joined (Rewrites-trans (gone v u i before behind) (Rewrites-trans copy (Rewrites-trans occupied.rewrites padded.rewrites)))
        where
          joined : (a : ℕ) → IsLink s.free a ⊎ (IsInside (union u.block s.free) a
              ⊎ (Touched (untouched u.block s.free) (union u.block s.free) (end_of (union u.block s.free) + 8) a
              ⊎ ((32 ≤ u.align) × (a ≡ payload_of f.start u.align - 8))))
              → Touched s.free (union u.block s.free) (end_of (union u.block s.free) + 8) a
          joined a (inl l) = at_link l
          joined a (inr (inl (low, high))) = in_hole low high
          joined a (inr (inr (inl t))) = Touched-joined (was_free v u i) a (inr t)
          joined a (inr (inr (inr (w, at)))) = let is = span in in_hole (omega (arith, is.start, is.after_start)) (omega (arith, is.end, is.after_start, is.enough, fits))

      -- a word that isn't before the payload is as it was when the block was made
      last : (a : ℕ) → a % 8 ≡ 0 → m.start ≤ a → (32 ≤ u.align → a ≢ payload_of f.start u.align - 8) → word_at n a ≡ word_at m4 a
      last a whole from other =
          let same = gone v u i before behind in
          padded.rewrites.words a whole (omega (arith, occupied.rewrites.start, copied.start, same.start)) (λ (w, at). other w at)

      from_memory : m.start ≤ f.start
      from_memory = omega (arith, (free_in_memory (IsWellFormed-released v.well_formed u i) (union u.block s.free) (inl refl)).0, span.start)

      first : word_at n ((union u.block s.free).start + 8) ≡ word_at m ((union u.block s.free).start + 8)
      first =
          let is = span in
          let base = from_memory in
          let same = gone v u i before behind in
          let a = (union u.block s.free).start + 8 in
          let to = payload_of f.start u.align in
          let there = LiesIn-copied (union u.block s.free) (IsInnerRoom-union v u i before behind own) (usable u) to copied in
          last a (omega (arith, is.start, is.whole)) (omega (arith, is.start)) (λ w at. omega (arith, is.start, is.wide w, is.whole, is.after_start))
          ∙ occupied.first
          ∙ word_at-with_bytes m2 m3 (usable u) to copied.placed there copied.start copied.bytes copied.out a (omega (arith, is.start, same.start))
          (inl (omega (arith, is.start, is.after_start)))
          ∙ before_links s.free (λ g j. (v.well_formed.free g j).whole.start) same a (inr (omega (arith, is.start, is.whole))) (omega (arith, is.start))

      -- ---- the state after

      abbrev bytes : List ℕ
      bytes = bytes_in n (between (payload_of f.start u.align) (end_of (planned s u size f).block))

      long : length (bytes_in n (between (payload_of f.start u.align) (end_of (planned s u size f).block))) ≡ end_of (planned s u size f).block - payload_of f.start u.align
      long =
          let is = span in
          let place = free_in_memory (IsWellFormed-released v.well_formed u i) (union u.block s.free) (inl refl) in
          length-bytes_in n (between (payload_of f.start u.align) (end_of (planned s u size f).block))
          (omega (arith, rewrites.start, place.0, is.start, is.after_start), omega (arith, rewrites.start, rewrites.length, place.1, is.end, is.enough, fits))

      -- nothing is out but usable bytes of the other payloads
      own_replanned : OwnsChunks m (replanned s u (planned s u size f) bytes)
      own_replanned a from unlent = here_released v u i own a from (λ x j. unlent x (inr j))

      t_well_formed : IsWellFormed fllen sllen (range_of m) (replanned s u (planned s u size f) bytes)
      t_well_formed = IsWellFormed-replanned v.well_formed u i size (planned s u size f) sound bytes long

      -- the bytes that the payload had, at its new place
      kept : bytes_in n (range_at (payload_of f.start u.align) (usable u).len) ≡ u.bytes
      kept =
          let is = span in
          let to = payload_of f.start u.align in
          let there = LiesIn-copied (union u.block s.free) (IsInnerRoom-union v u i before behind own) (usable u) to copied in
          padded.rewrites.bytes (range_at to (usable u).len) (omega (arith, occupied.rewrites.start, copied.start, (gone v u i before behind).start, is.after_start))
          (λ a (w, at). inr (omega (arith, is.after_start)))
          ∙ occupied.kept (range_at to (usable u).len) (omega (arith, is.start, is.after_start)) (omega (arith, is.enough))
          ∙ bytes_in-copied m2 m3 (usable u) to copied.placed there copied.start copied.bytes copied.out
          ∙ payload_kept

      keeps : Keeps u.bytes bytes
      keeps =
          let is = span in
          let old = (v.well_formed.used u i).bytes in
          let k = (usable u).len in
          let to = payload_of f.start u.align in
          let same : min (length u.bytes) (length bytes) ≡ k = min-eq_left (omega (arith, old, long, is.enough)) ∙ old in
          ap (λ j. take j bytes) same ∙ take-take k (end_of (planned s u size f).block - to) (drop (to - n.start) n.bytes) (omega (arith, is.enough)) ∙ kept
          ∙ sym (ap (λ j. take j u.bytes) same ∙ take_all k u.bytes (omega (arith, old)))

      -- ---- the words of the blocks after

      new_still : IsUsedStill n s (union u.block s.free) (moved u (planned s u size f) bytes)
      new_still =
          let is = span in
          let base = from_memory in
          let block = (planned s u size f).block in
          new_used
          (last f.start (omega (arith, is.whole)) base (λ w at. omega (arith, is.after_start)) ∙ ap (word_at m4) (sym is.start) ∙ occupied.size)
          (last (end_of block + 8) (omega (arith, is.whole, is.granules)) (omega arith) (λ w at. omega (arith, is.enough)) ∙ occupied.behind ∙ is.start)
          refl padded.reads

      used_still : (y : Used) → IsIn y (replanned s u (planned s u size f) bytes).used → IsUsedStill n s (union u.block s.free) y
      used_still y (inl same) = subst (IsUsedStill n s (union u.block s.free)) (sym same) new_still
      used_still y (inr j) =
          old_used (IsIn-others u.payload y s.used j).0 (λ a hy hu. used_free (IsWellFormed-released v.well_formed u i) y (union u.block s.free) a j (inl refl) hy hu)

      rest_still : (g : Range) → IsIn g (rest_behind (planned s u size f).block (reach s u)) → IsFreeStill n s (union u.block s.free) g
      rest_still g j =
          let is = span in
          let base = from_memory in
          let hole = (is_free v u i).whole in
          let (same, less) = IsIn-rest_behind (planned s u size f).block (reach s u) g j in
          let at : g.start ≡ end_of (planned s u size f).block = ap (λ r. r.start) same in
          let end : end_of g ≡ reach s u = ap end_of same ∙ omega arith in
          let words = occupied.rest g (subst (λ e. IsIn g (rest_behind (planned s u size f).block e)) (sym is.end) j) in
          new_free
          (last g.start (omega (arith, is.whole, is.granules)) (omega arith) (λ w a. omega (arith, is.enough, is.after_start)) ∙ words.0)
          (last (end_of g + 8) (omega (arith, is.end, hole.start, hole.len)) (omega (arith, fits)) (λ w a. omega (arith, is.enough, is.after_start, fits)) ∙ words.1)

      free_still : (g : Range) → IsIn g (planned s u size f).free → IsFreeStill n s (union u.block s.free) g
      free_still g k = elim (IsIn-append g (rest_behind (planned s u size f).block (reach s u)) (untouched u.block s.free) k) [
        | inl j ↦ rest_still g j
        | inr j ↦ old_free (was_free v u i g j) (untouched_apart v u i g j)
      ]

      -- the word before the payload is no link
      table : HasTable fllen sllen n t4 (planned s u size f).free
      table =
          HasTable-Rewrites padded.rewrites placed other
          (subst (λ e. HasTable fllen sllen m4 t4 (rest_behind (planned s u size f).block e ++ untouched u.block s.free)) span.end occupied.table)
        where
          placed : (g : Range) → IsIn g (planned s u size f).free → CanBeBlock m4 g
          placed g k =
              let is = t_well_formed.free g k in
              let place = free_in_memory t_well_formed g k in
              let all = rewrites in
              let start : m4.start ≡ m.start = sym padded.rewrites.start ∙ all.start in
              let length_is : length m4.bytes ≡ length m.bytes = sym padded.rewrites.length ∙ all.length in
              let before_pad = λ (a : ℕ) (from : m.start ≤ a). sym (padded.rewrites.own a (omega (arith, start))) ∙ all.own a from in
              record {
                some = omega (arith, v.nonzero, place.0);
                whole = is.whole.start;
                room = omega (arith, is.some, is.whole.len);
                lies_in = (omega (arith, place.0), omega (arith, place.1));
                own = own-there m m4 g place.0 before_pad (here_free-in m t_well_formed own_replanned g k);
              }

          none : (g : Range) → IsIn g (planned s u size f).free → (k : ℕ) → k + 8 ≤ 32 → (32 ≤ u.align) × (g.start + k ≡ payload_of f.start u.align - 8) → ⊥
          none g j k early (w, at) =
              let is = span in
              let free = t_well_formed.free g j in
              used_free t_well_formed (moved u (planned s u size f) bytes) g (g.start + k) (inl refl) j
              (record { from = omega (arith, is.after_start); to = omega (arith, is.after_start, is.enough) })
              (record { from = omega arith; to = omega (arith, free.some, free.whole.len) })

          other : (g : Range) → IsIn g (planned s u size f).free
              → ¬ ((32 ≤ u.align) × (g.start + 16 ≡ payload_of f.start u.align - 8)) × ¬ ((32 ≤ u.align) × (g.start + 24 ≡ payload_of f.start u.align - 8))
          other g j = (none g j 16 (omega arith), none g j 24 (omega arith))

      pub IsCarriedOut-moved : IsCarriedOut fllen sllen (contents m t) (contents n t4) s u (planned s u size f)
      IsCarriedOut-moved =
          let is = is_free v u i in
          let refilled : IsRefilled fllen sllen m n t4 s (replanned s u (planned s u size f) bytes).used (planned s u size f).free (union u.block s.free) =
          record { rewrites = rewrites; first = first; used_still = used_still; free_still = free_still; table = table; own = own_replanned } in
          let same : range_of n ≡ range_of m = ap₂ (λ a l. range_at a l) rewrites.start rewrites.length in
          let well_formed = subst (λ p. IsWellFormed fllen sllen p (replanned s u (planned s u size f) bytes)) (sym same) t_well_formed in (
            replanned s u (planned s u size f) bytes,
            record { bytes = bytes; answer = refl; length = long; kept = keeps; after = refl },
            StandsFor-refilled v (union u.block s.free) is.whole is.some (home v u i) refilled well_formed,
            KeepsSpare-refilled v (union u.block s.free) is.whole is.some (home v u i) refilled,
          )
