-- The writes that make a chunk longer: the value represents the state with a used block more, and then for that of the grown chunk.
use Rattle.rlsf_base.proofs.Lending.Present.{own-there, own-inside}
use Rattle.rlsf_base.specs.OpenSpace.{out_with, IsOwned}
use Rattle.rlsf_base.specs.Out.{is_own}
use Rattle.rlsf_base.specs.Space.{out_at, word_range, Space, bytes_in, range_of, with_word, word_at}
use Rattle.rlsf_blocks.proofs.Words.NeverOut.{here_longer}
use Rattle.std.proofs.Common.{◌≡◌, ℕ, ◌+◌, ◌-◌, ◌%◌, ◌^◌, ◌<◌, ◌≤◌, ◌⊎◌, true, List, ◌∷◌, length, arith, inl, inr, refl, sym, ◌∙◌, ap, subst}
use mathlib.Core.Path.{ap₂}
use Rattle.std.proofs.lemmas.Bool.{cases_lt}
use Rattle.rlsf_base.specs.declared.memory.range.Range.{Range}
use Rattle.rlsf_base.specs.Range.{end_of, range_at}
use Rattle.rlsf_model.specs.Insert.{grown}
use Rattle.rlsf_model.specs.Join.{ends_at}
use Rattle.rlsf_model.specs.Lists.{IsIn, without}
use Rattle.rlsf_model.specs.Release.{released}
use Rattle.rlsf_model.specs.State.{State, Used, between, usable}
use Rattle.rlsf_model.specs.WellFormed.{itself, IsWellFormed}
use Rattle.rlsf_model.proofs.Coverage.{covers-inside, coverage-IsIn, IsIn-without}
use Rattle.rlsf_blocks.specs.InBand.{sentinel_of}
use Rattle.rlsf_blocks.specs.Spare.{IsSpare, KeepsSpare}
use Rattle.rlsf_blocks.specs.StandsFor.{contents, IsUnlent, StandsFor}
use Rattle.rlsf_blocks.specs.Steps.Extension.{IsExtensible, lengthened, more_block}
use Rattle.rlsf_table.specs.Rewrites.{Rewrites}
use Rattle.rlsf_blocks.specs.Steps.Touched.{Touched, in_hole}
use Rattle.rlsf_table.specs.Table.{Table}
use Rattle.rlsf_blocks.proofs.Allocate.Placements.{length-bytes_in}
use Rattle.rlsf_blocks.proofs.LongerChunks.Lengthened.{is_chunk, IsWellFormed-lengthened, released-lengthened}
use Rattle.rlsf_table.proofs.Tables.FreeTables.{HasTable-Rewrites}
use Rattle.rlsf_blocks.proofs.RepresentedStates.FreeBlocks.{CanBeBlock-free}
use Rattle.rlsf_table.proofs.Words.Writes.{Rewrites-trans, Rewrites-weaken}
use Rattle.rlsf_model.proofs.Tiling.{LiesInChunk}
use Rattle.rlsf_blocks.proofs.Words.Stays.{IsPlacedAs, IsWritable-in, placed_by, placed_here, placed_then, Stays, Stays-rewrites}
use Rattle.rlsf_blocks.proofs.Words.Apart.{Has, chunk_chunk, home_of_free, home_of_used, free_last, used_last}
use Rattle.rlsf_blocks.proofs.Words.Frames.{chunk_first}
use Rattle.rlsf_blocks.proofs.Words.Refilled.{KeepsSpare-Touched, IsUsedStill, old_used, new_used, old_free, IsChunkStill, old_chunk, new_chunk, StandsFor-rewritten}
use Rattle.rlsf_table.proofs.Words.Writing.{IsWrite, write, rewrites_of, reads_of}

-- the memories m1 to m3 after the three writes: the size word of the new block, and the words of the new sentinel
pub record AreExtended (m m1 m2 m3 : Space) (c : Range) (len : ℕ) : Type 0 where
  pub one : IsWrite m m1 (sentinel_of c) (len + 1)
  pub two : IsWrite m1 m2 (sentinel_of c + len) 35
  pub three : IsWrite m2 m3 (sentinel_of c + len + 8) (sentinel_of c)

-- the bytes of the new block's payload
abbrev pub more_bytes : Space → Range → ℕ → List ℕ
more_bytes n c len = bytes_in n (between (end_of c - 16) (end_of (range_at (end_of c - 32) len)))

module _ {fllen sllen : ℕ} {m : Space} {table : Table} {s : State} (v : StandsFor fllen sllen (contents m table) s) (c : Range) (len : ℕ)
    (is : IsExtensible fllen (range_of m) s c len) where
  -- where the words are
  pub record IsBehind : Type 0 where
    pub start : c.start % 32 ≡ 0
    pub length : c.len % 32 ≡ 0
    pub room : 64 ≤ c.len
    pub from : m.start ≤ c.start
    pub to : end_of c + len ≤ end_of (range_of m)
    pub more : len % 32 ≡ 0
    pub some : 32 ≤ len
    pub addressable : end_of (range_of m) < 2 ^ 64

  pub placed : IsBehind
  placed =
      let chunk = v.well_formed.chunks c (is_chunk v.well_formed c len is) in
      record {
        start = chunk.whole.start;
        length = chunk.whole.len;
        room = chunk.has_room;
        from = chunk.lies_in.0;
        to = is.fresh.lies_in.1;
        more = is.whole;
        some = omega (arith, is.some, is.whole);
        addressable = v.well_formed.addressable;
      }

  -- what the chunk has more, from its old last bytes on
  abbrev pub extension : Range
  extension = range_at (end_of c - 32) (32 + len)

  pub here_extension : IsOwned m (range_at (end_of c) len) → IsOwned m extension
  here_extension = here_longer v c (is_chunk v.well_formed c len is) len

  pub AreExtended-from : IsOwned m (range_at (end_of c) len) → {m1 m2 m3 : Space} {end : ℕ} → end_of c ≡ end
      → (m1.start ≡ m.start) × (m1.bytes ≡ with_word m (end - 32) (len + 1)) × (m1.out ≡ out_with m (word_range (end - 32)))
      → (m2.start ≡ m1.start) × (m2.bytes ≡ with_word m1 (end - 32 + len) 35) × (m2.out ≡ out_with m1 (word_range (end - 32 + len)))
      → (m3.start ≡ m2.start) × (m3.bytes ≡ with_word m2 (end - 32 + len + 8) (end - 32)) × (m3.out ≡ out_with m2 (word_range (end - 32 + len + 8)))
      → AreExtended m m1 m2 m3 c len
  AreExtended-from owned {m1} {m2} {m3} {end} at e1 e2 e3 =
      let start = placed.start in
      let granules = placed.length in
      let room = placed.room in
      let from = placed.from in
      let to = placed.to in
      let more = placed.more in
      let some = placed.some in
      let addressable = placed.addressable in
      let can = λ (l : Space) (same : IsPlacedAs m l) (a : ℕ). IsWritable-in same extension (omega arith, omega arith) (here_extension owned) a in
      let w1 : IsWrite m m1 (end - 32) (len + 1) = write (can m (placed_here m) (end - 32) (omega arith) (omega (arith, at)) (omega (arith, at))) e1.0 e1.1 (omega arith) e1.2 in
      let one = placed_by (rewrites_of w1) in
      let w2 : IsWrite m1 m2 (end - 32 + len) 35 = write (can m1 one (end - 32 + len) (omega arith) (omega (arith, at)) (omega (arith, at))) e2.0 e2.1 (omega arith) e2.2 in
      let two = placed_then one (placed_by (rewrites_of w2)) in
      let w3 : IsWrite m2 m3 (end - 32 + len + 8) (end - 32) =
      write (can m2 two (end - 32 + len + 8) (omega arith) (omega (arith, at)) (omega (arith, at))) e3.0 e3.1 (omega arith) e3.2 in
      let writes = λ (e : ℕ). IsWrite m m1 (e - 32) (len + 1) × IsWrite m1 m2 (e - 32 + len) 35 × IsWrite m2 m3 (e - 32 + len + 8) (e - 32) in
      let (one, two, three) = subst writes (sym at) (w1, w2, w3) in
      record { one = one; two = two; three = three }

  -- the three words were written
  module _ {m1 m2 n : Space} (writes : AreExtended m m1 m2 n c len) where
    written : Rewrites m n (λ a. ((a ≡ sentinel_of c) ⊎ (a ≡ sentinel_of c + len)) ⊎ (a ≡ sentinel_of c + len + 8))
    written = Rewrites-trans (Rewrites-trans (rewrites_of writes.one) (rewrites_of writes.two)) (rewrites_of writes.three)

    pub Stays-extended : Stays m n
    Stays-extended = Stays-rewrites written

    -- the new block's payload is here
    pub here_more : IsOwned m (range_at (end_of c) len) → IsOwned n (usable (more_block c len (more_bytes n c len)))
    here_more owned =
        own-there m n (usable (more_block c len (more_bytes n c len))) (omega arith) written.own
        (own-inside m extension (usable (more_block c len (more_bytes n c len))) (omega arith) (omega (arith, placed.some)) (here_extension owned))

    -- they are in a hole from the old sentinel on
    abbrev hole : Range
    hole = range_at (sentinel_of c) (len + 16)

    granule : sentinel_of c % 32 ≡ 0
    granule = omega (arith, placed.start, placed.length, placed.room)

    some : 0 < len + 16
    some = omega arith

    second : (sentinel_of c + 8) % 32 ≡ 8
    second = omega (arith, granule)

    rewrites : Rewrites m n (Touched s.free hole (sentinel_of c + 8))
    rewrites = Rewrites-weaken go written
      where
        go : (a : ℕ) → (((a ≡ sentinel_of c) ⊎ (a ≡ sentinel_of c + len)) ⊎ (a ≡ sentinel_of c + len + 8)) → Touched s.free hole (sentinel_of c + 8) a
        go a (inl (inl at)) = in_hole (omega arith) (omega arith)
        go a (inl (inr at)) = in_hole (omega arith) (omega arith)
        go a (inr at) = in_hole (omega arith) (omega arith)

    -- the words that were written, and one that stays
    size : word_at n (sentinel_of c) ≡ len + 1
    size = rest.words (sentinel_of c) (omega (arith, placed.start, placed.length)) (omega (arith, placed.from, placed.room, writes.one.start)) apart ∙ reads_of writes.one
      where
        rest : Rewrites m1 n (λ a. (a ≡ sentinel_of c + len) ⊎ (a ≡ sentinel_of c + len + 8))
        rest = Rewrites-trans (rewrites_of writes.two) (rewrites_of writes.three)

        apart : (sentinel_of c ≡ sentinel_of c + len) ⊎ (sentinel_of c ≡ sentinel_of c + len + 8) → ⊥
        apart (inl at) = omega (arith, is.some)
        apart (inr at) = omega arith

    sentinel : word_at n (sentinel_of c + len) ≡ 35
    sentinel =
        (rewrites_of writes.three).words (sentinel_of c + len) (omega (arith, placed.start, placed.length, placed.more))
        (omega (arith, placed.from, placed.room, writes.one.start, writes.two.start)) (λ at. omega arith)
        ∙ reads_of writes.two

    stays : word_at n (sentinel_of c + 8) ≡ word_at m (sentinel_of c + 8)
    stays = grind (arith, written, placed, some)

    -- ---- what lies outside the hole

    w : IsWellFormed fllen sllen (range_of m) s
    w = v.well_formed

    is_c : IsIn c s.chunks
    is_c = is_chunk w c len is

    -- no chunk has an address behind c
    chunk_apart : (d : Range) (a : ℕ) → IsIn d s.chunks → Has d a → end_of c ≤ a → a < end_of c + len → ⊥
    chunk_apart d a i h low high = omega (arith, is.fresh.apart a low high, coverage-IsIn itself d s.chunks a i, covers-inside d a h.from h.to)

    -- nor has a block of c an address of c's last bytes
    block_apart : (r : Range) → LiesInChunk s r → ((a : ℕ) → Has r a → sentinel_of c ≤ a → a < end_of c → ⊥) → (a : ℕ) → Has r a → Has hole a → ⊥
    block_apart r home last a hr hh = elim (cases_lt a (end_of c)) [
      | inl low ↦ last a hr (omega (arith, hh.from)) low
      | inr high ↦ chunk_apart home.chunk a home.is_chunk (record { from = omega (arith, home.from, hr.from); to = omega (arith, home.to, hr.to) }) high (omega (arith, hh.to))
    ]

    used_apart : (u : Used) → IsIn u s.used → (a : ℕ) → Has u.block a → Has hole a → ⊥
    used_apart u i = block_apart u.block (home_of_used w u i) (λ a h low. used_last w u c a i is_c h (omega (arith, low)))

    free_apart : (f : Range) → IsIn f s.free → (a : ℕ) → Has f a → Has hole a → ⊥
    free_apart f i = block_apart f (home_of_free w f i) (λ a h low. free_last w f c a i is_c h (omega (arith, low)))

    -- ---- the state with a used block more

    long : length (more_bytes n c len) ≡ len - 16
    long =
        length-bytes_in n (between (end_of c - 16) (end_of (range_at (end_of c - 32) len)))
        (omega (arith, placed.from, written.start), omega (arith, placed.to, written.start, written.length)) ∙ omega arith

    t_well_formed : IsWellFormed fllen sllen (range_of m) (lengthened c len (more_bytes n c len) s)
    t_well_formed = IsWellFormed-lengthened w c len is (more_bytes n c len) long

    -- another chunk than c has no address of the longer chunk
    other_apart : (d : Range) (a : ℕ) → IsIn d (without (ends_at (end_of c)) s.chunks) → Has d a → Has (range_at c.start (c.len + len)) a → ⊥
    other_apart d a j hd hc =
        let same : range_at c.start (c.len + len) ≡ d = chunk_chunk t_well_formed (range_at c.start (c.len + len)) d a (inl refl) (inr j) hc hd in
        let begins = ap (λ r. r.start) same in
        let ends = ap end_of same in
        let more = placed.some in
        chunk_apart d (end_of c) (IsIn-without (ends_at (end_of c)) d s.chunks j) (record { from = omega arith; to = omega arith }) (omega arith) (omega arith)

    pub StandsFor-lengthened : IsOwned m (range_at (end_of c) len) → StandsFor fllen sllen (contents n table) (lengthened c len (more_bytes n c len) s)
    StandsFor-lengthened owned =
        let same : range_of n ≡ range_of m = ap₂ (λ a l. record { start = a; len = l }) written.start written.length in
        StandsFor-rewritten v hole granule some (sentinel_of c + 8) second (inr refl) (record {
          rewrites = rewrites;
          first = λ _. stays;
          used_still = used_still;
          free_still = λ f i. old_free i (free_apart f i);
          chunk_still = chunk_still;
          table = HasTable-Rewrites written (CanBeBlock-free v) (λ f i. (no_link f i 16 refl (omega arith), no_link f i 24 refl (omega arith))) v.table;
          own = λ a from unlent d j low high. elim j [
            | inl same ↦ in_longer a from (λ x i. unlent x (inr i)) (omega (arith, low, ap (λ (r : Range). r.start) same))
                (omega (arith, high, ap (λ (r : Range). end_of r) same))
            | inr k ↦ v.own a from (λ x i. unlent x (inr i)) d (IsIn-without (ends_at (end_of c)) d s.chunks k) low high
          ];
        }) (subst (λ p. IsWellFormed fllen sllen p (lengthened c len (more_bytes n c len) s)) (sym same) t_well_formed)
      where
        -- the longer chunk's bytes are those of the chunk, and those behind it
        in_longer : (a : ℕ) → m.start ≤ a → IsUnlent s a → c.start ≤ a → a < c.start + (c.len + len) → is_own (out_at m a) ≡ true
        in_longer a from unlent low high = elim (cases_lt a (end_of c)) [
          | inl inside ↦ v.own a from unlent c is_c low inside
          | inr past ↦ owned a past (omega (arith, high))
        ]

        no_link : (f : Range) → IsIn f s.free → (i : ℕ) → i % 32 ≡ i → 16 ≤ i
            → (((f.start + i ≡ sentinel_of c) ⊎ (f.start + i ≡ sentinel_of c + len)) ⊎ (f.start + i ≡ sentinel_of c + len + 8)) → ⊥
        no_link f j i inner late at =
            let start = (w.free f j).whole.start in
            let more = placed.more in
            let whole = granule in
            elim at [ inl first ↦ elim first [ inl e ↦ omega arith | inr e ↦ omega arith ] | inr e ↦ omega arith ]

        used_still : (u : Used) → IsIn u (more_block c len (more_bytes n c len) ∷ s.used) → IsUsedStill n s hole u
        used_still u (inl same) = subst (IsUsedStill n s hole) (sym same) (new_used size (reads_of writes.three) refl (λ wide. absurd (omega arith)))
        used_still u (inr i) = old_used i (used_apart u i)

        chunk_still : (d : Range) → IsIn d (range_at c.start (c.len + len) ∷ without (ends_at (end_of c)) s.chunks) → IsChunkStill n s hole d
        chunk_still d (inl same) =
            let room = placed.room in
            let begins : word_at n (c.start + 8) ≡ 0 =
            chunk_first w hole granule some (sentinel_of c + 8) second (omega arith) (omega arith) rewrites c is_c (λ h. omega (arith, h.from)) (λ e. omega arith)
            ∙ v.previous.first c is_c in
            subst (IsChunkStill n s hole) (sym same) (new_chunk (ap (word_at n) (omega arith) ∙ sentinel) begins)
        chunk_still d (inr j) =
            let i = IsIn-without (ends_at (end_of c)) d s.chunks j in
            let room = (w.chunks d i).has_room in
            let long = placed.room in
            old_chunk i
            (λ h. other_apart d (sentinel_of d) j (record { from = omega arith; to = omega arith }) (record { from = omega (arith, h.from); to = omega (arith, h.to) }))
            (λ low high. absurd (other_apart d d.start j (record { from = omega arith; to = omega arith }) (record { from = omega arith; to = omega arith })))

    -- no spare byte has changed
    KeepsSpare-lengthened : KeepsSpare m s n (lengthened c len (more_bytes n c len) s)
    KeepsSpare-lengthened = KeepsSpare-Touched w (lengthened c len (more_bytes n c len) s) hole (sentinel_of c + 8) rewrites no_hole no_other
      where
        beyond : (a : ℕ) → IsSpare (lengthened c len (more_bytes n c len) s) a → sentinel_of c ≤ a → a < sentinel_of c + len + 16 → ⊥
        beyond a spare low high =
            let room = placed.room in
            let more = placed.some in
            omega (arith, spare (range_at c.start (c.len + len)) (inl refl) (omega arith) (omega arith))

        no_hole : (a : ℕ) → IsSpare (lengthened c len (more_bytes n c len) s) a → Has hole a → ⊥
        no_hole a spare h = beyond a spare h.from (omega (arith, h.to))

        no_other : (a : ℕ) → IsSpare (lengthened c len (more_bytes n c len) s) a → sentinel_of c + 8 ≤ a → a < sentinel_of c + 8 + 8 → ⊥
        no_other a spare low high = beyond a spare (omega arith) (omega arith)

    -- once the block is released, the value represents the state with the grown chunk
    pub grown_stands : {o : Space} {changed : Table}
        → StandsFor fllen sllen (contents o changed) (released (lengthened c len (more_bytes n c len) s) (more_block c len (more_bytes n c len)))
        × KeepsSpare n (lengthened c len (more_bytes n c len) s) o (released (lengthened c len (more_bytes n c len) s) (more_block c len (more_bytes n c len)))
        → StandsFor fllen sllen (contents o changed) (grown c len s) × KeepsSpare m s o (grown c len s)
    grown_stands {o} {changed} (stands, spare) =
        let first = KeepsSpare-lengthened in (
          subst (StandsFor fllen sllen (contents o changed)) (released-lengthened w c len is (more_bytes n c len) long) stands,
          λ a from to before after. spare a (omega (arith, from, written.start)) (omega (arith, to, written.start, written.length)) after after ∙ first a from to before after,
        )
