-- A used block got another size in place: the value represents the state with it.
use Rattle.std.proofs.Common.{◌≡◌, ℕ, ◌+◌, ◌-◌, ◌%◌, ◌^◌, ◌<◌, ◌≤◌, ◌⊎◌, List, ◌∷◌, ◌++◌, length, drop, min, arith, inl, inr, refl, sym, ◌∙◌, ap, subst}
use mathlib.Core.Path.{ap₂}
use Rattle.std.proofs.lemmas.List.{take-take}
use Rattle.std.specs.Int.{w64, from_le_bytes}
use Rattle.rlsf_base.specs.declared.memory.range.Range.{Range}
use Rattle.rlsf_base.specs.Range.{end_of, range_at, LiesIn}
use Rattle.rlsf_base.specs.Space.{Space, bytes_in, range_of, word_at, word_range}
use Rattle.rlsf_base.proofs.Lending.WordIsHere.{is_here-word, word_at-is}
use Rattle.rlsf_model.specs.Allocate.{rest_behind}
use Rattle.rlsf_model.specs.Lists.{IsIn}
use Rattle.rlsf_model.specs.Reallocate.{Keeps}
use Rattle.rlsf_model.specs.State.{State, Used, between, others}
use Rattle.rlsf_model.specs.WellFormed.{IsWellFormed}
use Rattle.rlsf_model.proofs.Changes.{IsIn-others}
use Rattle.rlsf_model.proofs.Coverage.{IsIn-append}
use Rattle.rlsf_model.proofs.Payloads.{IsUsed-after_start, IsUsed-aligned, IsUsed-some}
use Rattle.rlsf_model.proofs.Plans.{IsSoundPlan, IsWellFormed-replanned}
use Rattle.rlsf_blocks.specs.StandsFor.{contents, OwnsChunks, StandsFor}
use Rattle.rlsf_table.specs.Rewrites.{IsLink}
use Rattle.rlsf_blocks.specs.Steps.Join.{IsNextOut}
use Rattle.rlsf_blocks.specs.Steps.Resize.{IsCarriedOut, IsOccupied, IsOwnedBehind}
use Rattle.rlsf_table.specs.Table.{Table, HasTable}
use Rattle.rlsf_blocks.proofs.Allocate.Placements.{length-bytes_in}
use Rattle.rlsf_blocks.proofs.RepresentedStates.Counted.{KeepsSpare-counted, StandsFor-counted}
use Rattle.rlsf_table.proofs.Words.Writes.{before_links, Rewrites-trans, Rewrites-weaken}
use Rattle.rlsf_blocks.proofs.Reallocate.NextPlans.{stretched, kept_whole, tail_joined-same, IsSound-kept, IsSound-stretched}
use Rattle.rlsf_blocks.proofs.Reallocate.Spans.{reach, span_of, staying, end_of-span, home, IsWhole-span}
use Rattle.rlsf_blocks.proofs.Reallocate.Spans.{free_apart, used_apart, span-some, span_in_memory, was_free}
use Rattle.rlsf_blocks.proofs.Words.Apart.{used_free, used_in_memory}
use Rattle.rlsf_blocks.proofs.Words.Frames.{sides}
use Rattle.rlsf_model.proofs.RangeLengths.{wide_whole}
use Rattle.rlsf_model.proofs.Names.{resized, moved, replanned}
use Rattle.rlsf_blocks.proofs.Words.NeverOut.{own_but_front}
use Rattle.rlsf_blocks.proofs.Words.Refilled.{Touched-joined, IsUsedStill, old_used, new_used, IsFreeStill, old_free, new_free, IsRefilled, StandsFor-refilled, KeepsSpare-refilled}

-- as many first bytes of two ranges at one address as both have are the same, if they are the same in both memories
pub Keeps-bytes_in : (m n : Space) (at old new : ℕ) → LiesIn (between at old) m.start (length m.bytes) → LiesIn (between at new) n.start (length n.bytes)
    → ((q : Range) → q.start ≡ at → end_of q ≤ old → end_of q ≤ new → at ≤ old → at ≤ new → bytes_in n q ≡ bytes_in m q)
    → at ≤ old → at ≤ new → Keeps (bytes_in m (between at old)) (bytes_in n (between at new))
Keeps-bytes_in m n at old new inside also same from to =
    let first = length-bytes_in m (between at old) inside in
    let second = length-bytes_in n (between at new) also in
    let k = min (length (bytes_in m (between at old))) (length (bytes_in n (between at new))) in
    let few : k ≤ old - at = omega (arith, first) in
    let less : k ≤ new - at = omega (arith, second) in
    take-take k (new - at) (drop (at - n.start) n.bytes) less
    ∙ same (range_at at k) refl (omega arith) (omega arith) from to
    ∙ sym (take-take k (old - at) (drop (at - m.start) m.bytes) few)

-- the payload's bytes in a memory, once the block has its new size
abbrev pub resized_bytes : Space → Used → ℕ → List ℕ
resized_bytes n u size = bytes_in n (between u.payload (end_of (resized u size)))

module _ {fllen sllen : ℕ} {m : Space} {t : Table} {s : State} (v : StandsFor fllen sllen (contents m t) s) (u : Used) (i : IsIn u s.used) (size : ℕ)
    (own : IsOwnedBehind m u size) where
  -- nothing is out but usable bytes of the other payloads
  own_replanned : (free : List Range) (bytes : List ℕ) → OwnsChunks m (replanned s u (record { block = resized u size; payload = u.payload; free = free }) bytes)
  own_replanned free bytes a from unlent =
      own_but_front v u i (end_of (resized u size)) own a from
      (unlent (moved u (record { block = resized u size; payload = u.payload; free = free }) bytes) (inl refl)) (λ x j. unlent x (inr j))

  -- ---- its length is as it was

  -- the value represents the state with the used blocks in another order
  StandsFor-reordered : (used : List Used) (free : List Range) → ((x : Used) → IsIn x used → IsIn x s.used) → free ≡ s.free
      → OwnsChunks m (record { chunks = s.chunks; used = used; free = free })
      → IsWellFormed fllen sllen (range_of m) (record { chunks = s.chunks; used = used; free = free })
      → StandsFor fllen sllen (contents m t) (record { chunks = s.chunks; used = used; free = free })
  StandsFor-reordered used free among same own_after well_formed =
      let was_free = λ (f : Range) (j : IsIn f free). subst (IsIn f) same j in
      record {
        nonzero = v.nonzero;
        well_formed = well_formed;
        sizes = record { used = λ x j. v.sizes.used x (among x j); free = λ f j. v.sizes.free f (was_free f j); sentinel = v.sizes.sentinel };
        previous = record { used = λ x j. v.previous.used x (among x j); free = λ f j. v.previous.free f (was_free f j); first = v.previous.first };
        payloads = record { bytes = λ x j. v.payloads.bytes x (among x j); pad = λ x j wide. v.payloads.pad x (among x j) wide };
        table = subst (HasTable fllen sllen m t) (sym same) v.table;
        own = own_after;
      }

  pub IsCarriedOut-kept : {n : Space} → n.start ≡ m.start → n.bytes ≡ m.bytes → n.out ≡ m.out → end_of (resized u size) ≡ end_of u.block
      → IsCarriedOut fllen sllen (contents m t) (contents n t) s u (kept_whole s u size)
  IsCarriedOut-kept {n} start bytes out same =
      let p = kept_whole s u size in
      let after = replanned s u p u.bytes in
      let long : length u.bytes ≡ end_of p.block - p.payload = (v.well_formed.used u i).bytes ∙ omega (arith, same) in
      let block : resized u size ≡ u.block = ap (λ l. range_at u.block.start l) (omega (arith, same)) in
      let unchanged : moved u p u.bytes ≡ u = ap (λ (b : Range). record { block = b; payload = u.payload; align = u.align; bytes = u.bytes }) block in
      let well_formed = IsWellFormed-replanned v.well_formed u i size p (IsSound-kept s u size v.well_formed i same) u.bytes long in
      let among : (x : Used) → IsIn x (moved u p u.bytes ∷ others u.payload s.used) → IsIn x s.used =
      λ x. elim [ inl e ↦ subst (λ y. IsIn y s.used) (sym (e ∙ unchanged)) i | inr j ↦ (IsIn-others u.payload x s.used j).0 ] in (
        after,
        record { bytes = u.bytes; answer = refl; length = long; kept = refl; after = refl },
        StandsFor-counted m n start bytes out
            (StandsFor-reordered (moved u p u.bytes ∷ others u.payload s.used) p.free among (tail_joined-same s u size same) (own_replanned p.free u.bytes) well_formed),
        KeepsSpare-counted m n start bytes out s after,
      )

  -- ---- it has another length

  module _ (fits : end_of (resized u size) ≤ reach s u) {m1 n : Space} {t1 x : Table} {next : ℕ} (out : IsNextOut fllen sllen m m1 t1 s.free (end_of u.block) next)
      (occupied : IsOccupied fllen sllen m1 n x (staying s u) (span_of s u) (resized u size)) where
    sound : IsSoundPlan s u size (stretched s u size)
    sound = IsSound-stretched s u size v.well_formed i fits

    -- what of the block lies in both blocks, behind the first 16 bytes, is as it was
    stays : (q : Range) → u.block.start + 16 ≤ q.start → end_of q ≤ end_of u.block → end_of q ≤ end_of (resized u size) → bytes_in n q ≡ bytes_in m q
    stays q from old new =
        occupied.kept q from new ∙ out.rewrites.bytes q (omega (arith, (used_in_memory v.well_formed u i).0)) apart
      where
        apart : (a : ℕ) → IsLink s.free a → (end_of q ≤ a) ⊎ (a + 8 ≤ q.start)
        apart a (g, j, at) =
            let free = v.well_formed.free g j in
            let inside : (g.start ≤ a) × (a + 8 ≤ end_of g) =
            elim at [ inl e ↦ (omega arith, omega (arith, free.whole.len)) | inr e ↦ (omega arith, omega (arith, free.whole.len)) ] in
            elim (sides u.block g (IsUsed-some u (v.well_formed.used u i)) free.some (λ b hu hg. used_free v.well_formed u g b i j hu hg)) [
              | inl before ↦ inl (omega arith)
              | inr behind ↦ inr (omega arith)
            ]

    -- the word before the payload names the block still
    pad : 32 ≤ u.align → word_at n (u.payload - 8) ≡ u.block.start
    pad wide =
        let is = v.well_formed.used u i in
        let after_start = IsUsed-after_start u is in
        let granule : u.payload % 32 ≡ 0 = wide_whole u.payload u.align is.power wide (IsUsed-aligned u is) in
        let whole = is.whole.start in
        let place = used_in_memory v.well_formed u i in
        let one = out.rewrites in
        let two = occupied.rewrites in
        let a = u.payload - 8 in
        let inside : m.start ≤ a = omega (arith, place.0) in
        let fits : word_at m a < 2 ^ 64 = omega (arith, v.payloads.pad u i wide, place.1, v.well_formed.addressable) in
        let there = is_here-word m a inside fits in
        word_at-is n a (omega (arith, one.start, two.start)) (λ k lo hi. two.here k (omega (arith, one.start)) (one.here k (omega arith) (there k lo hi)))
        ∙ ap (from_le_bytes w64) (stays (word_range a) (omega arith) (omega (arith, is.within)) (omega (arith, sound.within)))
        ∙ sym (word_at-is m a inside there)
        ∙ v.payloads.pad u i wide

    inside : LiesIn (between u.payload (end_of (resized u size))) n.start (length n.bytes)
    inside =
        let is = v.well_formed.used u i in
        let place = span_in_memory v u i in
        let one = out.rewrites in
        let two = occupied.rewrites in
        (omega (arith, IsUsed-after_start u is, place.0, one.start, two.start), omega (arith, sound.within, place.1, one.start, one.length, two.start, two.length))

    long : length (resized_bytes n u size) ≡ end_of (resized u size) - u.payload
    long = length-bytes_in n (between u.payload (end_of (resized u size))) inside

    keeps : Keeps u.bytes (resized_bytes n u size)
    keeps =
        let is = v.well_formed.used u i in
        let after_start = IsUsed-after_start u is in
        let place = used_in_memory v.well_formed u i in
        subst (λ old. Keeps old (resized_bytes n u size)) (v.payloads.bytes u i)
        (Keeps-bytes_in m n u.payload (end_of u.block) (end_of (resized u size)) (omega (arith, place.0), omega (arith, place.1, is.within)) inside
        (λ q at old new from to. stays q (omega arith) old new) is.within sound.within)

    -- what the span's words are then
    refilled : IsRefilled fllen sllen m n x s (moved u (stretched s u size) (resized_bytes n u size) ∷ others u.payload s.used) (stretched s u size).free (span_of s u)
    refilled =
        let whole = IsWhole-span v u i in
        let place = span_in_memory v u i in
        record {
          rewrites = Rewrites-weaken (Touched-joined (was_free v u i)) (Rewrites-trans out.rewrites occupied.rewrites);
          first = occupied.first
              ∙ before_links s.free (λ g j. (v.well_formed.free g j).whole.start) out.rewrites (u.block.start + 8) (inr (omega (arith, whole.start))) (omega (arith, place.0));
          used_still = still_used;
          free_still = still_free;
          table = subst (λ l. HasTable fllen sllen n x (l ++ staying s u)) listed occupied.table;
          own = own_replanned (stretched s u size).free (resized_bytes n u size);
        }
      where
        listed : rest_behind (resized u size) (end_of (span_of s u)) ≡ rest_behind (resized u size) (reach s u)
        listed = ap (rest_behind (resized u size)) (end_of-span v u i)

        still_used : (y : Used) → IsIn y (moved u (stretched s u size) (resized_bytes n u size) ∷ others u.payload s.used) → IsUsedStill n s (span_of s u) y
        still_used y (inl same) = subst (IsUsedStill n s (span_of s u)) (sym same) (new_used occupied.size occupied.behind refl pad)
        still_used y (inr j) = old_used (IsIn-others u.payload y s.used j).0 (used_apart v u i y j)

        still_free : (g : Range) → IsIn g (rest_behind (resized u size) (reach s u) ++ staying s u) → IsFreeStill n s (span_of s u) g
        still_free g j = elim (IsIn-append g (rest_behind (resized u size) (reach s u)) (staying s u) j) [
          | inl k ↦ let words = occupied.rest g (subst (IsIn g) (sym listed) k) in new_free words.0 words.1
          | inr k ↦ old_free (was_free v u i g k) (free_apart v u i g k)
        ]

    pub IsCarriedOut-stretched : IsCarriedOut fllen sllen (contents m t) (contents n x) s u (stretched s u size)
    IsCarriedOut-stretched =
        let p = stretched s u size in
        let bytes = resized_bytes n u size in
        let whole = IsWhole-span v u i in
        let some = span-some v u i in
        let at = home v u i in
        let well_formed = IsWellFormed-replanned v.well_formed u i size p sound bytes long in
        let same : range_of n ≡ range_of m = ap₂ (λ a l. range_at a l) refilled.rewrites.start refilled.rewrites.length in (
          replanned s u p bytes,
          record { bytes = bytes; answer = refl; length = long; kept = keeps; after = refl },
          StandsFor-refilled v (span_of s u) whole some at refilled (subst (λ r. IsWellFormed fllen sllen r (replanned s u p bytes)) (sym same) well_formed),
          KeepsSpare-refilled v (span_of s u) whole some at refilled,
        )
