-- Usable bytes of live payloads change, or bytes outside of all chunks, and no other byte: the words and the class table spell the state with the bytes that are there.
use Rattle.std.proofs.Common.{◌≡◌, ℕ, ◌+◌, ◌-◌, ◌%◌, ◌<◌, ◌≤◌, ◌⊎◌, List, [], ◌∷◌, length, drop, map, slice_index, arith, inl, inr, refl}
use Rattle.std.proofs.Common.{sym, ◌∙◌, ap, subst, get_or-drop, get_or-take, length-drop, length-take}
use Rattle.std.proofs.lemmas.Bool.{cases_lt}
use Rattle.std.proofs.lemmas.List.{ext_get_or}
use Rattle.rlsf_base.specs.declared.memory.range.Range.{Range}
use Rattle.rlsf_base.specs.Range.{end_of}
use Rattle.rlsf_base.specs.Space.{out_at, Space, byte_at, bytes_in, range_of, word_at, word_range}
use Rattle.rlsf_model.specs.Lists.{IsIn}
use Rattle.rlsf_model.specs.State.{State, Used, usable}
use Rattle.rlsf_model.specs.WellFormed.{coverage, covers, IsUsed, IsWellFormed}
use Rattle.rlsf_blocks.specs.StandsFor.{IsUnlent, contents, StandsFor}
use Rattle.rlsf_base.specs.Out.{is_own}
use Rattle.rlsf_base.proofs.Lending.WordIsHere.{word_at-kept}
use Rattle.rlsf_model.proofs.Coverage.{IsIn-map, IsIn-map_from}
use Rattle.rlsf_model.proofs.Payloads.{IsUsed-after_start}
use Rattle.rlsf_model.proofs.Tiling.{block_of}
use Rattle.rlsf_table.specs.Table.{Table, head_at, of_class, HasTable}
use Rattle.rlsf_table.proofs.FreeLists.Chains.{Links-same}
use Rattle.rlsf_table.proofs.FreeLists.Classes.{IsIn-of_class}
use Rattle.rlsf_blocks.specs.InBand.{sentinel_of, HasSizes, HasPrevious, HasPayloads}
use Rattle.rlsf_blocks.specs.Laws.{DiffersInPayloads, read_from, with_bytes_of, WordsReadNoPayload}
use Rattle.rlsf_blocks.proofs.Words.Apart.{Has, used_free, used_used, used_last, chunk_chunk, home_of_free, home_of_used, free_in_memory, used_in_memory}

-- ---- equal bytes make equal words

-- a byte of a range is the byte at its address
slice_index-bytes_in : (m : Space) (r : Range) (i : ℕ) → i < r.len → m.start ≤ r.start → slice_index (bytes_in m r) i ≡ byte_at m (r.start + i)
slice_index-bytes_in m r i less inside =
    get_or-take r.len (drop (r.start - m.start) m.bytes) i 0 less ∙ get_or-drop (r.start - m.start) m.bytes i 0 ∙ ap (λ k. slice_index m.bytes k) (omega arith)

-- two memories of one place have the same bytes in a range, if they have the same byte at each address of it
pub bytes_in-same : (m n : Space) (r : Range) → n.start ≡ m.start → length n.bytes ≡ length m.bytes → m.start ≤ r.start
    → ((a : ℕ) → r.start ≤ a → a < end_of r → byte_at n a ≡ byte_at m a) → bytes_in n r ≡ bytes_in m r
bytes_in-same m n r start long inside same =
    let as_long : length (bytes_in n r) ≡ length (bytes_in m r) =
    omega (
      arith,
      length-take r.len (drop (r.start - n.start) n.bytes),
      length-drop (r.start - n.start) n.bytes,
      length-take r.len (drop (r.start - m.start) m.bytes),
      length-drop (r.start - m.start) m.bytes,
    ) in
    ext_get_or 0 (bytes_in n r) (bytes_in m r) as_long (λ i below.
    let less : i < r.len = omega (arith, length-take r.len (drop (r.start - n.start) n.bytes)) in
    slice_index-bytes_in n r i less (omega arith) ∙ same (r.start + i) (omega arith) (omega arith) ∙ sym (slice_index-bytes_in m r i less inside))

-- ---- the used blocks with other bytes in their payloads

-- they are the blocks of the state
coverage-with_bytes_of : (n : Space) (used : List Used) (a : ℕ) → coverage block_of (map (with_bytes_of n) used) a ≡ coverage block_of used a
coverage-with_bytes_of n [] a = refl
coverage-with_bytes_of n (u ∷ us) a = ap (λ k. covers u.block a + k) (coverage-with_bytes_of n us a)

-- a memory differs from another one at most in the usable bytes of live payloads, and outside of all chunks
pub record DiffersBesideBlocks (m n : Space) (s : State) : Type 0 where
  pub start : n.start ≡ m.start
  pub length : length n.bytes ≡ length m.bytes
  pub bytes : (a : ℕ) → m.start ≤ a → IsUnlent s a → (c : Range) → IsIn c s.chunks → c.start ≤ a → a < end_of c → byte_at n a ≡ byte_at m a
  pub out : (a : ℕ) → m.start ≤ a → IsUnlent s a → (c : Range) → IsIn c s.chunks → c.start ≤ a → a < end_of c → out_at n a ≡ out_at m a

module _ {fllen sllen : ℕ} {m n : Space} {t : Table} {s : State} (old : StandsFor fllen sllen (contents m t) s) (differs : DiffersBesideBlocks m n s) where
  w : IsWellFormed fllen sllen (range_of m) s
  w = old.well_formed

  -- ---- words outside the payloads

  -- a word of a chunk outside the usable bytes of each payload
  word_at-unlent : (a : ℕ) → m.start ≤ a → (c : Range) → IsIn c s.chunks → c.start ≤ a → a + 8 ≤ end_of c
      → ((u : Used) → IsIn u s.used → (a + 8 ≤ u.payload) ⊎ (end_of u.block ≤ a)) → word_at n a ≡ word_at m a
  word_at-unlent a inside c k low high outside =
      let apart : (b : ℕ) → a ≤ b → b < a + 8 → IsUnlent s b =
      λ b from to u i. elim (outside u i) [ inl before ↦ inl (omega (arith, before)) | inr behind ↦ inr (omega (arith, behind)) ] in
      word_at-kept m n a differs.start inside (bytes_in-same m n (word_range a) differs.start differs.length inside
      (λ b from to. differs.bytes b (omega arith) (apart b from to) c k (omega arith) (omega arith)))
      (λ b from to. differs.out b (omega arith) (apart b from to) c k (omega arith) (omega arith))

  -- a word that begins in no used block but before its payload
  word_at-apart : (a : ℕ) → m.start ≤ a → (c : Range) → IsIn c s.chunks → c.start ≤ a → a + 8 ≤ end_of c
      → ((u : Used) → IsIn u s.used → Has u.block a → a + 8 ≤ u.payload) → word_at n a ≡ word_at m a
  word_at-apart a inside c k low high before = word_at-unlent a inside c k low high (λ u i. elim (cases_lt a (end_of u.block)) [
    | inr behind ↦ inr behind
    | inl to ↦ elim (cases_lt a u.block.start) [
      | inl low ↦ inl (omega (arith, low, IsUsed-after_start u (w.used u i)))
      | inr from ↦ inl (before u i (record { from = from; to = to }))
    ]
  ])

  -- the second word from an address on at which a used block begins, if it has that address
  word_at-second : (b : ℕ) → b % 32 ≡ 0 → m.start ≤ b → (c : Range) → IsIn c s.chunks → c.start ≤ b → b + 16 ≤ end_of c
      → ((u : Used) → IsIn u s.used → Has u.block b → u.block.start ≡ b) → word_at n (b + 8) ≡ word_at m (b + 8)
  word_at-second b whole inside c k low high begins = word_at-apart (b + 8) (omega arith) c k (omega arith) (omega arith) (λ u i has.
      let is = w.used u i in
      omega (arith, IsUsed-after_start u is))

  -- ---- the words spell the state with the bytes that are there now

  abbrev now : State
  now = read_from n s

  used_size : (x : Used) → IsIn x s.used → word_at n x.block.start ≡ word_at m x.block.start
  used_size x i = let home = home_of_used w x i in
      let deep = IsUsed-after_start x (w.used x i) in
      word_at-apart x.block.start (used_in_memory w x i).0 home.chunk home.is_chunk home.from (omega (arith, home.to, deep, (w.used x i).within)) (λ u j has.
      let is = w.used x i in
      let same : u ≡ x = used_used w u x x.block.start j i has (record { from = omega arith; to = omega (arith, IsUsed-after_start x is, is.within) }) in
      omega (arith, ap (λ y. y.payload) same, IsUsed-after_start x is))

  used_pad : (x : Used) → IsIn x s.used → word_at n (x.payload - 8) ≡ word_at m (x.payload - 8)
  used_pad x i =
      let is = w.used x i in
      let deep = IsUsed-after_start x is in
      let home = home_of_used w x i in
      word_at-apart (x.payload - 8) (omega (arith, (used_in_memory w x i).0)) home.chunk home.is_chunk (omega (arith, home.from, deep))
      (omega (arith, home.to, deep, is.within)) (λ u j has.
      let same : u ≡ x = used_used w u x (x.payload - 8) j i has (record { from = omega arith; to = omega (arith, is.within) }) in
      omega (arith, ap (λ y. y.payload) same))

  used_previous : (x : Used) → IsIn x s.used → word_at n (end_of x.block + 8) ≡ word_at m (end_of x.block + 8)
  used_previous x i =
      let is = w.used x i in
      let home = home_of_used w x i in
      word_at-second (end_of x.block) (omega (arith, is.whole.start, is.whole.len)) (omega (arith, (used_in_memory w x i).0)) home.chunk home.is_chunk
      (omega (arith, home.from)) (omega (arith, home.to)) (λ u j has.
      elim (cases_lt u.block.start (end_of x.block)) [
        | inr from ↦ omega (arith, from, has.from)
        | inl low ↦
            let same : u ≡ x =
            used_used w u x (end_of x.block - 1) j i (record { from = omega arith; to = omega (arith, has.to) })
            (record { from = omega (arith, is.within); to = omega (arith, is.within) }) in
            absurd (omega (arith, has.to, ap (λ y. end_of y.block) same))
      ])

  free_word : (f : Range) → IsIn f s.free → (a : ℕ) → f.start ≤ a → a ≤ f.start + 24 → word_at n a ≡ word_at m a
  free_word f i a from to =
      let is = w.free f i in
      let home = home_of_free w f i in
      word_at-apart a (omega (arith, (free_in_memory w f i).0)) home.chunk home.is_chunk (omega (arith, home.from))
      (omega (arith, home.to, is.some, is.whole.len)) (λ u j has. absurd (used_free w u f a j i has (record { from = from; to = omega (arith, is.some, is.whole.len) })))

  free_previous : (f : Range) → IsIn f s.free → word_at n (end_of f + 8) ≡ word_at m (end_of f + 8)
  free_previous f i =
      let is = w.free f i in
      let home = home_of_free w f i in
      word_at-second (end_of f) (omega (arith, is.whole.start, is.whole.len)) (omega (arith, (free_in_memory w f i).0)) home.chunk home.is_chunk (omega (arith, home.from))
      (omega (arith, home.to)) (λ u j has.
      elim (cases_lt u.block.start (end_of f)) [
        | inr from ↦ omega (arith, from, has.from)
        | inl low ↦ absurd (used_free w u f (end_of f - 1) j i (record { from = omega arith; to = omega (arith, has.to) })
            (record { from = omega (arith, is.some); to = omega (arith, is.some) }))
      ])

  chunk_sentinel : (c : Range) → IsIn c s.chunks → word_at n (sentinel_of c) ≡ word_at m (sentinel_of c)
  chunk_sentinel c i =
      let chunk = w.chunks c i in
      word_at-apart (sentinel_of c) (omega (arith, chunk.lies_in.0, chunk.has_room)) c i (omega (arith, chunk.has_room)) (omega (arith, chunk.has_room)) (λ u j has.
      absurd (used_last w u c (sentinel_of c) j i has (omega (arith, chunk.has_room)) (omega (arith, chunk.has_room))))

  chunk_first : (c : Range) → IsIn c s.chunks → word_at n (c.start + 8) ≡ word_at m (c.start + 8)
  chunk_first c i =
      let chunk = w.chunks c i in
      word_at-second c.start chunk.whole.start chunk.lies_in.0 c i (omega arith) (omega (arith, chunk.has_room)) (λ u j has.
      let home = home_of_used w u j in
      let begins : home.chunk.start ≡ c.start = ap (λ r. r.start) (chunk_chunk w home.chunk c c.start home.is_chunk i
      (record { from = omega (arith, home.from, has.from); to = omega (arith, home.to, has.to) }) (record { from = omega arith; to = omega (arith, chunk.has_room) })) in
      omega (arith, home.from, has.from))

  sizes : HasSizes n now
  sizes = record {
    used = λ x i. let (u, j, same) = IsIn-map_from (with_bytes_of n) x s.used i in
        subst (λ y. word_at n y.block.start ≡ y.block.len + 1) (sym same) (used_size u j ∙ old.sizes.used u j);
    free = λ f i. free_word f i f.start (omega arith) (omega arith) ∙ old.sizes.free f i;
    sentinel = λ c i. chunk_sentinel c i ∙ old.sizes.sentinel c i;
  }

  previous : HasPrevious n now
  previous = record {
    used = λ x i. let (u, j, same) = IsIn-map_from (with_bytes_of n) x s.used i in
        subst (λ y. word_at n (end_of y.block + 8) ≡ y.block.start) (sym same) (used_previous u j ∙ old.previous.used u j);
    free = λ f i. free_previous f i ∙ old.previous.free f i;
    first = λ c i. chunk_first c i ∙ old.previous.first c i;
  }

  payloads : HasPayloads n now
  payloads = record {
    bytes = λ x i. let (u, j, same) = IsIn-map_from (with_bytes_of n) x s.used i in subst (λ y. bytes_in n (usable y) ≡ y.bytes) (sym same) refl;
    pad = λ x i. let (u, j, same) = IsIn-map_from (with_bytes_of n) x s.used i in
        subst (λ y. 32 ≤ y.align → word_at n (y.payload - 8) ≡ y.block.start) (sym same) (λ wide. used_pad u j ∙ old.payloads.pad u j wide);
  }

  table : HasTable fllen sllen n t s.free
  table = record {
    bits = old.table.bits;
    lists = record {
      rows = old.table.lists.rows;
      places = old.table.lists.places;
      links = λ fl sl row place. Links-same m n 0 (of_class sllen fl sl s.free) (head_at t fl sl)
          (λ f i. let free = (IsIn-of_class sllen fl sl f s.free i).0 in
          (free_word f free (f.start + 16) (omega arith) (omega arith), free_word f free (f.start + 24) (omega arith) (omega arith)))
          (old.table.lists.links fl sl row place);
    };
  }

  -- as many bytes are in a payload as before
  IsUsed-with_bytes_of : (u : Used) → IsIn u s.used → IsUsed (with_bytes_of n u)
  IsUsed-with_bytes_of u i =
      let is = w.used u i in
      let place = used_in_memory w u i in
      record {
        whole = is.whole;
        power = is.power;
        placed = is.placed;
        within = is.within;
        bytes =
            omega (
              arith,
              place.0,
              place.1,
              is.within,
              IsUsed-after_start u is,
              differs.start,
              differs.length,
              length-take (usable u).len (drop (u.payload - n.start) n.bytes),
              length-drop (u.payload - n.start) n.bytes,
            );
      }

  well_formed : IsWellFormed fllen sllen (range_of m) now
  well_formed = grind (arith, w, IsIn-map_from, IsUsed-with_bytes_of, coverage-with_bytes_of)

  pub stands_beside : StandsFor fllen sllen (contents n t) now
  stands_beside =
      let place : range_of m ≡ range_of n = λ i. record { start = sym differs.start i; len = sym differs.length i } in
      record {
        nonzero = omega (arith, old.nonzero, differs.start);
        well_formed = subst (λ r. IsWellFormed fllen sllen r now) place well_formed;
        sizes = sizes;
        previous = previous;
        payloads = payloads;
        table = table;
        own =
            λ a from unlent c i low high. (let apart : IsUnlent s a = λ u i. unlent (with_bytes_of n u) (IsIn-map (with_bytes_of n) u s.used i) in
            ap is_own (differs.out a (omega (arith, differs.start, from)) apart c i low high) ∙ old.own a (omega (arith, differs.start, from)) apart c i low high);
      }

-- the same where only usable bytes of live payloads change
pub stands_unlent : {fllen sllen : ℕ} {m n : Space} {t : Table} {s : State} → StandsFor fllen sllen (contents m t) s → DiffersInPayloads m n s
    → StandsFor fllen sllen (contents n t) (read_from n s)
stands_unlent old differs = stands_beside old (record {
  start = differs.start;
  length = differs.length;
  bytes = λ a from unlent c i low high. differs.bytes a from unlent;
  out = λ a from unlent c i low high. differs.out a from unlent;
})

-- the words inside the pools and the class table read no usable byte of a live payload
pub words_read_no_payload : WordsReadNoPayload
words_read_no_payload fllen sllen m n t s old differs = stands_unlent old differs
