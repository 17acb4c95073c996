-- A hole was written over: the value represents the state whose new blocks and chunks have their words.
use Rattle.std.proofs.Common.{◌≡◌, ◌≢◌, ℕ, ◌+◌, ◌-◌, ◌%◌, ◌<◌, ◌≤◌, ◌⊎◌, List, arith, inl, inr, sym, ◌∙◌, ap, refl, drop, get_or}
use Rattle.std.proofs.lemmas.Bool.{cases_eq, cases_lt}
use Rattle.std.proofs.lemmas.List.{get_or-drop, get_or-take}
use Rattle.rlsf_base.specs.declared.memory.range.Range.{Range}
use Rattle.rlsf_base.specs.Range.{end_of, range_at}
use Rattle.rlsf_base.specs.Space.{Space, byte_at, bytes_in, range_of, word_at}
use Rattle.rlsf_table.specs.Rewrites.{IsLink, Rewrites}
use Rattle.rlsf_table.specs.Table.{Table, HasTable}
use Rattle.rlsf_blocks.specs.Steps.Touched.{Touched, at_link, in_hole, at_other}
use Rattle.rlsf_blocks.specs.InBand.{sentinel_of}
use Rattle.rlsf_blocks.specs.Spare.{IsSpare, KeepsSpare}
use Rattle.rlsf_blocks.specs.StandsFor.{contents, OwnsChunks, StandsFor}
use Rattle.rlsf_model.specs.Lists.{IsIn}
use Rattle.rlsf_model.specs.State.{State, Used, usable}
use Rattle.rlsf_model.specs.WellFormed.{IsWhole, IsWellFormed}
use Rattle.rlsf_model.proofs.Payloads.{IsUsed-some}
use Rattle.rlsf_model.proofs.Tiling.{LiesInChunk}
use Rattle.rlsf_blocks.proofs.RepresentedStates.Neighbours.{Before, free_before, used_before, none_before}
use Rattle.rlsf_blocks.proofs.Words.Apart.{Has, chunk_chunk, home_of_free}
use Rattle.rlsf_blocks.proofs.Words.Frames.{used_size, used_previous, used_bytes, used_pad, free_size, free_previous, chunk_first, chunk_sentinel}

-- a byte is the one byte of a range
byte_at-bytes_in : (m : Space) (a : ℕ) → byte_at m a ≡ get_or (bytes_in m (range_at a 1)) 0 0
byte_at-bytes_in m a = let some : 0 < 1 = omega arith in
    sym (get_or-take 1 (drop (a - m.start) m.bytes) 0 0 some ∙ get_or-drop (a - m.start) m.bytes 0 0 ∙ ap (λ i. get_or m.bytes i 0) (omega arith))

-- the words that are written while a hole is hold no spare byte, where the hole doesn't
pub KeepsSpare-Touched : {fllen sllen : ℕ} {memory : Range} {m n : Space} {s : State} → IsWellFormed fllen sllen memory s → (t : State) (hole : Range) (other : ℕ)
    → Rewrites m n (Touched s.free hole other)
    → ((a : ℕ) → IsSpare t a → Has hole a → ⊥) → ((a : ℕ) → IsSpare t a → other ≤ a → a < other + 8 → ⊥) → KeepsSpare m s n t
KeepsSpare-Touched {m = m} {n = n} {s = s} w t hole other rewrites no_hole no_other a from to spare_s spare_t =
    byte_at-bytes_in n a ∙ ap (λ bs. get_or bs 0 0) (rewrites.bytes (range_at a 1) from apart) ∙ sym (byte_at-bytes_in m a)
  where
    word_apart : (x : ℕ) → ((a < x) ⊎ (x + 8 ≤ a)) → (end_of (range_at a 1) ≤ x) ⊎ (x + 8 ≤ a)
    word_apart x (inl below) = inl (omega arith)
    word_apart x (inr above) = inr above

    -- no free block has a spare byte
    not_free : (g : Range) → IsIn g s.free → Has g a → ⊥
    not_free g i h =
        let home = home_of_free w g i in
        let beyond = spare_s home.chunk home.is_chunk (omega (arith, home.from, h.from)) (omega (arith, home.to, h.to)) in
        omega (arith, home.to, h.to)

    outside : (r : Range) (x : ℕ) → (Has r a → ⊥) → r.start ≤ x → x + 8 ≤ end_of r → (a < x) ⊎ (x + 8 ≤ a)
    outside r x none low high = grind (arith, cases_lt, from, to)

    apart : (x : ℕ) → Touched s.free hole other x → (end_of (range_at a 1) ≤ x) ⊎ (x + 8 ≤ a)
    apart x (at_link (g, i, inl at)) = let is = w.free g i in word_apart x (outside g x (not_free g i) (omega arith) (omega (arith, is.some, is.whole.len)))
    apart x (at_link (g, i, inr at)) = let is = w.free g i in word_apart x (outside g x (not_free g i) (omega arith) (omega (arith, is.some, is.whole.len)))
    apart x (in_hole low high) = word_apart x (outside hole x (no_hole a spare_t) low high)
    apart x (at_other at) = word_apart x (outside (range_at other 8) x (λ h. no_other a spare_t h.from h.to) (omega arith) (omega arith))

-- the links of the list, and what was touched in a part of it, in the hole and at another word
pub Touched-joined : {free part : List Range} {hole : Range} {other : ℕ} → ((f : Range) → IsIn f part → IsIn f free) → (a : ℕ)
    → IsLink free a ⊎ Touched part hole other a → Touched free hole other a
Touched-joined among a h3 = grind arith

-- a used block that was there, outside the hole, or a new one with its words
pub data IsUsedStill (n : Space) (s : State) (hole : Range) (u : Used) : Type 0 where
  old_used : IsIn u s.used → ((a : ℕ) → Has u.block a → Has hole a → ⊥) → IsUsedStill n s hole u
  new_used : word_at n u.block.start ≡ u.block.len + 1 → word_at n (end_of u.block + 8) ≡ u.block.start → bytes_in n (usable u) ≡ u.bytes
      → (32 ≤ u.align → word_at n (u.payload - 8) ≡ u.block.start) → IsUsedStill n s hole u

-- a free block that was there, outside the hole, or a new one with its words
pub data IsFreeStill (n : Space) (s : State) (hole f : Range) : Type 0 where
  old_free : IsIn f s.free → ((a : ℕ) → Has f a → Has hole a → ⊥) → IsFreeStill n s hole f
  new_free : word_at n f.start ≡ f.len → word_at n (end_of f + 8) ≡ f.start → IsFreeStill n s hole f

-- a chunk that was there: its sentinel is outside the hole, and it begins in the hole or at its end only where the hole does; or a new one with its words
pub data IsChunkStill (n : Space) (s : State) (hole d : Range) : Type 0 where
  old_chunk : IsIn d s.chunks → (Has hole (sentinel_of d) → ⊥) → (hole.start ≤ d.start → d.start ≤ end_of hole → d.start ≡ hole.start) → IsChunkStill n s hole d
  new_chunk : word_at n (sentinel_of d) ≡ 35 → word_at n (d.start + 8) ≡ 0 → IsChunkStill n s hole d

-- the words once those in a hole and another one were written
pub record IsRewritten (fllen sllen : ℕ) (m n : Space) (t : Table) (s : State) (chunks : List Range) (used : List Used) (free : List Range) (hole : Range) (past : ℕ)
    : Type 0 where
  pub rewrites : Rewrites m n (Touched s.free hole past)
  pub first : Before s hole.start → word_at n (hole.start + 8) ≡ word_at m (hole.start + 8)
  pub used_still : (u : Used) → IsIn u used → IsUsedStill n s hole u
  pub free_still : (f : Range) → IsIn f free → IsFreeStill n s hole f
  pub chunk_still : (d : Range) → IsIn d chunks → IsChunkStill n s hole d
  pub table : HasTable fllen sllen n t free
  -- nothing is out but usable bytes of the new used blocks
  pub own : OwnsChunks m (record { chunks = chunks; used = used; free = free })

module _ {fllen sllen : ℕ} {m n : Space} {table changed : Table} {s : State} (old : StandsFor fllen sllen (contents m table) s) {chunks : List Range} {used : List Used}
    {free : List Range} (hole : Range) (whole : hole.start % 32 ≡ 0) (some : 0 < hole.len) (past : ℕ) (second : past % 32 ≡ 8)
    (past_is : (past ≡ end_of hole + 8) ⊎ (past ≡ hole.start + 8)) (is : IsRewritten fllen sllen m n changed s chunks used free hole past) where
  from : hole.start ≤ past
  from = elim past_is [ inl at ↦ omega arith | inr at ↦ omega arith ]

  to : past ≤ end_of hole + 8
  to = elim past_is [ inl at ↦ omega arith | inr at ↦ omega arith ]

  -- a block outside the hole has that word behind it only if it ends where the hole begins
  other_end : (r : Range) → 0 < r.len → ((a : ℕ) → Has r a → Has hole a → ⊥) → end_of r ≢ hole.start → end_of r + 8 ≢ past
  other_end r long apart off same = grind (arith, apart, from, to)

  size_used : (u : Used) → IsUsedStill n s hole u → word_at n u.block.start ≡ u.block.len + 1
  size_used u (old_used i apart) = used_size old.well_formed hole whole some past second from to is.rewrites u i apart ∙ old.sizes.used u i
  size_used u (new_used size previous bytes pad) = size

  size_free : (f : Range) → IsFreeStill n s hole f → word_at n f.start ≡ f.len
  size_free f (old_free i apart) = free_size old.well_formed hole whole some past second from to is.rewrites f i apart ∙ old.sizes.free f i
  size_free f (new_free size previous) = size

  previous_used : (u : Used) → IsUsedStill n s hole u → word_at n (end_of u.block + 8) ≡ u.block.start
  previous_used u (old_used i apart) = elim (cases_eq (end_of u.block) hole.start) [
    | inl at ↦ ap (λ a. word_at n (a + 8)) at ∙ is.first (used_before u i at) ∙ ap (λ a. word_at m (a + 8)) (sym at) ∙ old.previous.used u i
    | inr off ↦ used_previous old.well_formed hole whole some past second from to is.rewrites u i apart off
        (other_end u.block (IsUsed-some u (old.well_formed.used u i)) apart off) ∙ old.previous.used u i
  ]
  previous_used u (new_used size previous bytes pad) = previous

  previous_free : (f : Range) → IsFreeStill n s hole f → word_at n (end_of f + 8) ≡ f.start
  previous_free f (old_free i apart) = elim (cases_eq (end_of f) hole.start) [
    | inl at ↦ ap (λ a. word_at n (a + 8)) at ∙ is.first (free_before f i at) ∙ ap (λ a. word_at m (a + 8)) (sym at) ∙ old.previous.free f i
    | inr off ↦ free_previous old.well_formed hole whole some past second from to is.rewrites f i apart off (other_end f (old.well_formed.free f i).some apart off)
        ∙ old.previous.free f i
  ]
  previous_free f (new_free size previous) = previous

  sentinel_there : (d : Range) → IsChunkStill n s hole d → word_at n (sentinel_of d) ≡ 35
  sentinel_there d (old_chunk i apart begins) = chunk_sentinel old.well_formed hole whole some past second from to is.rewrites d i apart ∙ old.sizes.sentinel d i
  sentinel_there d (new_chunk sentinel first) = sentinel

  previous_first : (d : Range) → IsChunkStill n s hole d → word_at n (d.start + 8) ≡ 0
  previous_first d (old_chunk i apart begins) = elim (cases_eq d.start hole.start) [
    | inl at ↦ ap (λ a. word_at n (a + 8)) at ∙ is.first (none_before d i at) ∙ ap (λ a. word_at m (a + 8)) (sym at) ∙ old.previous.first d i
    | inr off ↦ chunk_first old.well_formed hole whole some past second from to is.rewrites d i (λ h. off (begins h.from (omega (arith, h.to))))
        (λ e. elim past_is [ inl at ↦ off (begins (omega arith) (omega arith)) | inr at ↦ off (omega arith) ]) ∙ old.previous.first d i
  ]
  previous_first d (new_chunk sentinel first) = first

  payload_bytes : (u : Used) → IsUsedStill n s hole u → bytes_in n (usable u) ≡ u.bytes
  payload_bytes u (old_used i apart) = used_bytes old.well_formed hole whole some past second from to is.rewrites u i apart ∙ old.payloads.bytes u i
  payload_bytes u (new_used size previous bytes pad) = bytes

  payload_pad : (u : Used) → IsUsedStill n s hole u → 32 ≤ u.align → word_at n (u.payload - 8) ≡ u.block.start
  payload_pad u (old_used i apart) wide =
      used_pad old.well_formed hole whole some past second from to is.rewrites u i apart wide ∙ old.payloads.pad u i wide
  payload_pad u (new_used size previous bytes pad) wide = pad wide

  pub StandsFor-rewritten : IsWellFormed fllen sllen (range_of n) (record { chunks = chunks; used = used; free = free })
      → StandsFor fllen sllen (contents n changed) (record { chunks = chunks; used = used; free = free })
  StandsFor-rewritten well_formed = record {
    nonzero = omega (arith, old.nonzero, is.rewrites.start);
    well_formed = well_formed;
    sizes = record {
      used = λ u i. size_used u (is.used_still u i);
      free = λ f i. size_free f (is.free_still f i);
      sentinel = λ d i. sentinel_there d (is.chunk_still d i);
    };
    previous = record {
      used = λ u i. previous_used u (is.used_still u i);
      free = λ f i. previous_free f (is.free_still f i);
      first = λ d i. previous_first d (is.chunk_still d i);
    };
    payloads = record { bytes = λ u i. payload_bytes u (is.used_still u i); pad = λ u i. payload_pad u (is.used_still u i) };
    table = is.table;
    own = λ a from unlent c i low high. is.rewrites.own a (omega (arith, is.rewrites.start, from)) ∙ is.own a (omega (arith, is.rewrites.start, from)) unlent c i low high;
  }

-- the words once a hole was filled with other blocks
pub record IsRefilled (fllen sllen : ℕ) (m n : Space) (t : Table) (s : State) (used : List Used) (free : List Range) (hole : Range) : Type 0 where
  pub rewrites : Rewrites m n (Touched s.free hole (end_of hole + 8))
  pub first : word_at n (hole.start + 8) ≡ word_at m (hole.start + 8)
  pub used_still : (u : Used) → IsIn u used → IsUsedStill n s hole u
  pub free_still : (f : Range) → IsIn f free → IsFreeStill n s hole f
  pub table : HasTable fllen sllen n t free
  -- nothing is out but usable bytes of the new used blocks
  pub own : OwnsChunks m (record { chunks = s.chunks; used = used; free = free })

module _ {fllen sllen : ℕ} {m n : Space} {table changed : Table} {s : State} (old : StandsFor fllen sllen (contents m table) s) {used : List Used} {free : List Range}
    (hole : Range) (whole : IsWhole hole) (some : 0 < hole.len) (home : LiesInChunk s hole) (is : IsRefilled fllen sllen m n changed s used free hole) where
  w : IsWellFormed fllen sllen (range_of m) s
  w = old.well_formed

  second : (end_of hole + 8) % 32 ≡ 8
  second = omega (arith, whole.start, whole.len)

  -- a chunk that begins in the hole or at its end begins where the hole does
  starts_there : (d : Range) → IsIn d s.chunks → hole.start ≤ d.start → d.start ≤ end_of hole → d.start ≡ hole.start
  starts_there d i low high =
      let long = (w.chunks d i).has_room in
      let same : home.chunk ≡ d =
      chunk_chunk w home.chunk d d.start home.is_chunk i (record { from = omega (arith, home.from); to = omega (arith, home.to) })
      (record { from = omega arith; to = omega arith }) in
      omega (arith, home.from, ap (λ r. r.start) same)

  -- no chunk's last bytes begin in the hole
  last_apart : (d : Range) → IsIn d s.chunks → Has hole (sentinel_of d) → ⊥
  last_apart d i h =
      let long = (w.chunks d i).has_room in
      let same : home.chunk ≡ d =
      chunk_chunk w home.chunk d (sentinel_of d) home.is_chunk i (record { from = omega (arith, home.from, h.from); to = omega (arith, home.to, h.to) })
      (record { from = omega arith; to = omega arith }) in
      omega (arith, home.to, h.to, ap (λ r. end_of r) same)

  -- the value represents the state with some of the chunks
  pub StandsFor-refilled_in : (chunks : List Range) → ((d : Range) → IsIn d chunks → IsIn d s.chunks)
      → IsWellFormed fllen sllen (range_of n) (record { chunks = chunks; used = used; free = free })
      → StandsFor fllen sllen (contents n changed) (record { chunks = chunks; used = used; free = free })
  StandsFor-refilled_in chunks still =
      StandsFor-rewritten old hole whole.start some (end_of hole + 8) second (inl refl) (record {
        rewrites = is.rewrites;
        first = λ _. is.first;
        used_still = is.used_still;
        free_still = is.free_still;
        chunk_still = λ d i. old_chunk (still d i) (last_apart d (still d i)) (starts_there d (still d i));
        table = is.table;
        own = λ a from unlent c i. is.own a from unlent c (still c i);
      })

  pub StandsFor-refilled : IsWellFormed fllen sllen (range_of n) (record { chunks = s.chunks; used = used; free = free })
      → StandsFor fllen sllen (contents n changed) (record { chunks = s.chunks; used = used; free = free })
  StandsFor-refilled well_formed = StandsFor-refilled_in s.chunks (λ d i. i) well_formed

  -- and no spare byte has changed
  pub KeepsSpare-refilled : KeepsSpare m s n (record { chunks = s.chunks; used = used; free = free })
  KeepsSpare-refilled = KeepsSpare-Touched w (record { chunks = s.chunks; used = used; free = free }) hole (end_of hole + 8) is.rewrites no_hole no_other
    where
      no_hole : (a : ℕ) → ((c : Range) → IsIn c s.chunks → c.start ≤ a → a < end_of c → sentinel_of c + 16 ≤ a) → Has hole a → ⊥
      no_hole a spare h = omega (arith, spare home.chunk home.is_chunk (omega (arith, home.from, h.from)) (omega (arith, home.to, h.to)), home.to, h.to)

      no_other : (a : ℕ) → ((c : Range) → IsIn c s.chunks → c.start ≤ a → a < end_of c → sentinel_of c + 16 ≤ a) → end_of hole + 8 ≤ a
          → a < end_of hole + 8 + 8 → ⊥
      no_other a spare low high = omega (arith, spare home.chunk home.is_chunk (omega (arith, home.from)) (omega (arith, home.to)), home.to)
