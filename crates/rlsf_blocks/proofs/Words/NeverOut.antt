-- What isn't out, since it is no usable byte of a payload: free blocks, the first words of each block, and a chunk's last bytes.
use Rattle.std.proofs.Common.{true, subst, sym, ◌≡◌, ℕ, ◌+◌, ◌-◌, ◌%◌, ◌^◌, ◌<◌, ◌≤◌, ◌⊎◌, arith, ap, inl, inr}
use Rattle.std.proofs.lemmas.Bool.{cases_eq, cases_lt}
use Rattle.rlsf_model.specs.Release.{released}
use Rattle.rlsf_model.proofs.Changes.{IsIn-others_from}
use Rattle.rlsf_base.specs.declared.memory.range.Range.{Range}
use Rattle.rlsf_base.specs.Out.{is_own}
use Rattle.rlsf_base.specs.Range.{end_of, range_at}
use Rattle.rlsf_base.specs.Space.{Space, out_at, range_of, word_at, word_range}
use Rattle.rlsf_base.specs.OpenSpace.{IsOwned, IsReadable}
use Rattle.rlsf_model.specs.Lists.{IsIn}
use Rattle.rlsf_model.specs.State.{State, Used, between, usable}
use Rattle.rlsf_model.specs.WellFormed.{IsWellFormed, last_bytes}
use Rattle.rlsf_model.proofs.Payloads.{IsUsed-after_start}
use Rattle.rlsf_table.specs.Table.{Table}
use Rattle.rlsf_blocks.specs.StandsFor.{contents, IsUnlent, OwnsChunks, StandsFor}
use Rattle.rlsf_base.proofs.Lending.Present.{own-word}
use Rattle.rlsf_base.proofs.Lending.WordIsHere.{is_word}
use Rattle.rlsf_blocks.specs.Blocks.{Block, HasBlock, used, free}
use Rattle.rlsf_blocks.specs.InBand.{HasSizes}
use Rattle.rlsf_blocks.proofs.Walking.Begins.{BehindBlock, block_behind, end_behind}
use Rattle.rlsf_blocks.proofs.Words.Apart.{Has, used_free, used_used, used_last, free_in_memory, used_in_memory, home_of_free, home_of_used}

-- of a memory of which nothing is out but usable bytes of a state's payloads
module _ {fllen sllen : ℕ} (m : Space) {s : State} (w : IsWellFormed fllen sllen (range_of m) s)
    (here : OwnsChunks m s) where
  -- a range of a chunk, which has no usable byte of a payload
  pub here_apart-in : (r : Range) → m.start ≤ r.start → (c : Range) → IsIn c s.chunks → c.start ≤ r.start → end_of r ≤ end_of c
      → ((u : Used) → IsIn u s.used → (a : ℕ) → u.payload ≤ a → a < end_of u.block → Has r a → ⊥) → IsOwned m r
  here_apart-in r from c in_chunks low high apart a lo hi = here a (omega arith) (λ u i. elim (cases_lt a u.payload) [
    | inl before ↦ inl before
    | inr behind ↦ elim (cases_lt a (end_of u.block)) [
      | inl within ↦ absurd (apart u i a behind within (record { from = lo; to = hi }))
      | inr past ↦ inr past
    ]
  ]) c in_chunks (omega arith) (omega arith)

  pub here_free-in : (f : Range) → IsIn f s.free → IsOwned m f
  here_free-in f i =
      let home = home_of_free w f i in
      here_apart-in f (free_in_memory w f i).0 home.chunk home.is_chunk (omega (arith, home.from)) (omega (arith, home.to))
      (λ u j a low high h. used_free w u f a j i (record { from = omega (arith, IsUsed-after_start u (w.used u j)); to = high }) h)

  pub here_behind_free-in : (f : Range) → IsIn f s.free → IsOwned m (range_at (end_of f) 16)
  here_behind_free-in f i =
      let some = (w.free f i).some in
      let home = home_of_free w f i in
      here_apart-in (range_at (end_of f) 16) (omega (arith, (free_in_memory w f i).0)) home.chunk home.is_chunk
      (omega (arith, home.from)) (omega (arith, home.to)) (λ u j a low high h. elim (cases_lt u.block.start (end_of f)) [
        | inl before ↦ used_free w u f (end_of f - 1) j i (record { from = omega arith; to = omega (arith, h.from) }) (record { from = omega arith; to = omega arith })
        | inr past ↦ omega (arith, h.to, IsUsed-after_start u (w.used u j))
      ])

-- a block's first word is one, and so is the word where an iteration goes on
module _ {fllen sllen : ℕ} {m : Space} {s : State} (w : IsWellFormed fllen sllen (range_of m) s) (sizes : HasSizes m s) where
  pub block-fits : (b : Block) → HasBlock s b → word_at m b.range.start < 2 ^ 64
  block-fits b (used u i same occupied) =
      subst (λ (r : Range). word_at m r.start < 2 ^ 64) (sym same) (omega (arith, sizes.used u i, (used_in_memory w u i).1, w.addressable))
  block-fits b (free i vacant) = omega (arith, sizes.free b.range i, (free_in_memory w b.range i).1, w.addressable)

  pub walk-fits : (a end : ℕ) → BehindBlock s a end → word_at m a < 2 ^ 64
  walk-fits a end (block_behind (b, has, begins)) = subst (λ k. word_at m k < 2 ^ 64) begins (block-fits b has)
  walk-fits a end (end_behind c i begins ends) = subst (λ k. word_at m k < 2 ^ 64) begins (omega (arith, sizes.sentinel c i))

module _ {fllen sllen : ℕ} {m : Space} {t : Table} {s : State} (v : StandsFor fllen sllen (contents m t) s) where
  -- a range of a chunk that has no usable byte of a payload
  pub here_apart : (r : Range) → m.start ≤ r.start → (c : Range) → IsIn c s.chunks → c.start ≤ r.start → end_of r ≤ end_of c
      → ((u : Used) → IsIn u s.used → (a : ℕ) → u.payload ≤ a → a < end_of u.block → Has r a → ⊥) → IsOwned m r
  here_apart = here_apart-in m v.well_formed v.own

  after : (u : Used) → IsIn u s.used → u.block.start + 16 ≤ u.payload
  after u i = IsUsed-after_start u (v.well_formed.used u i)

  pub here_free : (f : Range) → IsIn f s.free → IsOwned m f
  here_free = here_free-in m v.well_formed v.own

  -- the bytes of a used block before its payload
  pub here_front : (u : Used) → IsIn u s.used → IsOwned m (between u.block.start u.payload)
  here_front u i = let home = home_of_used v.well_formed u i in
      here_apart (between u.block.start u.payload) (used_in_memory v.well_formed u i).0 home.chunk home.is_chunk (omega (arith, home.from, after u i))
      (omega (arith, home.to, after u i, (v.well_formed.used u i).within)) (λ x j a low high h.
      let in_block : Has u.block a = record { from = h.from; to = omega (arith, h.to, after u i, (v.well_formed.used u i).within) } in
      let same = used_used v.well_formed x u a j i (record { from = omega (arith, after x j); to = high }) in_block in
      omega (arith, ap (λ (y : Used). y.payload) same, h.to, after u i))

  pub here_last : (c : Range) → IsIn c s.chunks → IsOwned m (last_bytes c)
  here_last c i =
      let chunk = v.well_formed.chunks c i in
      here_apart (last_bytes c) (omega (arith, chunk.lies_in, chunk.has_room)) c i (omega (arith, chunk.has_room)) (omega (arith, chunk.has_room))
      (λ u j a low high h. used_last v.well_formed u c a j i (record { from = omega (arith, after u j); to = high }) (omega (arith, h.from, chunk.has_room))
      (omega (arith, h.to, chunk.has_room)))

  -- words that can be read: one of a used block before its payload, the first one of such a block, and that of a free block
  pub front_word : (u : Used) → IsIn u s.used → (a : ℕ) → a % 8 ≡ 0 → u.block.start ≤ a → a + 8 ≤ u.payload → word_at m a < 2 ^ 64 → IsReadable m a
  front_word u i a whole from to fits =
      let place = used_in_memory v.well_formed u i in
      let own = own-word m (between u.block.start u.payload) a (here_front u i) (omega (arith, from)) (omega (arith, from, to)) in
      is_word m a (whole, (omega (arith, place.0, from), omega (arith, place.1, (v.well_formed.used u i).within, to)), own) fits

  pub used_word : (u : Used) → IsIn u s.used → (a : ℕ) → u.block.start ≡ a → IsReadable m a
  used_word u i a at =
      front_word u i a (omega (arith, at, (v.well_formed.used u i).whole.start)) (omega (arith, at)) (omega (arith, at, after u i))
      (subst (λ b. word_at m b < 2 ^ 64) at (omega (arith, v.sizes.used u i, (used_in_memory v.well_formed u i).1, v.well_formed.addressable)))

  pub free_word : (f : Range) → IsIn f s.free → (a : ℕ) → f.start ≡ a → IsReadable m a
  free_word f i a at =
      let is = v.well_formed.free f i in
      let place = free_in_memory v.well_formed f i in
      let own = own-word m f a (here_free f i) (omega (arith, at)) (omega (arith, at, is.some, is.whole.len)) in
      is_word m a (omega (arith, at, is.whole.start), (omega (arith, at, place.0), omega (arith, at, place.1)), own)
      (subst (λ b. word_at m b < 2 ^ 64) at (omega (arith, v.sizes.free f i, place.1, v.well_formed.addressable)))

  -- the 16 bytes behind a range, which a chunk has too, where no used block goes past its end
  pub here_behind : (r : Range) → 0 < r.len → m.start ≤ r.start → (c : Range) → IsIn c s.chunks → c.start ≤ r.start → end_of r + 16 ≤ end_of c
      → ((u : Used) → IsIn u s.used → Has u.block (end_of r - 1) → end_of u.block ≤ end_of r)
      → IsOwned m (range_at (end_of r) 16)
  here_behind r some from c i low high ends = here_apart (range_at (end_of r) 16) (omega arith) c i (omega arith)
      (omega arith) (λ u j a low high h. elim (cases_lt u.block.start (end_of r)) [
        | inl before ↦ omega (arith, h.from, ends u j (record { from = omega arith; to = omega (arith, h.from) }))
        | inr past ↦ omega (arith, h.to, after u j)
      ])

  pub here_behind_free : (f : Range) → IsIn f s.free → IsOwned m (range_at (end_of f) 16)
  here_behind_free = here_behind_free-in m v.well_formed v.own

  pub here_behind_used : (u : Used) → IsIn u s.used → IsOwned m (range_at (end_of u.block) 16)
  here_behind_used u i =
      let some = after u i in
      let within = (v.well_formed.used u i).within in
      let home = home_of_used v.well_formed u i in
      here_behind u.block (omega arith) (used_in_memory v.well_formed u i).0 home.chunk home.is_chunk (omega (arith, home.from)) (omega (arith, home.to))
      (λ x j h. let same = used_used v.well_formed x u (end_of u.block - 1) j i h (record { from = omega arith; to = omega arith }) in
      omega (arith, ap (λ (y : Used). end_of y.block) same))

  -- the last bytes of a chunk, and a range behind it that is the memory's own
  pub here_longer : (c : Range) → IsIn c s.chunks → (len : ℕ) → IsOwned m (range_at (end_of c) len) → IsOwned m (range_at (end_of c - 32) (32 + len))
  here_longer c i len own a lo hi =
      let chunk = v.well_formed.chunks c i in
      elim (cases_lt a (end_of c)) [
        | inl inside ↦ here_last c i a (omega arith) (omega (arith, chunk.has_room))
        | inr past ↦ own a past (omega (arith, hi, chunk.has_room))
      ]

  -- a block's first word, the words behind it, and the word where an iteration goes on
  pub here_block : (b : Block) → HasBlock s b → IsOwned m (word_range b.range.start)
  here_block b (used u i same occupied) =
      let start = ap (λ (r : Range). r.start) same in
      own-word m (between u.block.start u.payload) b.range.start (here_front u i) (omega (arith, start)) (omega (arith, start, after u i))
  here_block b (free i vacant) =
      let is = v.well_formed.free b.range i in
      own-word m b.range b.range.start (here_free b.range i) (omega arith) (omega (arith, is.some, is.whole.len))

  pub here_behind_block : (b : Block) → HasBlock s b → IsOwned m (range_at (end_of b.range) 16)
  here_behind_block b (used u i same occupied) = subst (λ r. IsOwned m (range_at (end_of r) 16)) (sym same) (here_behind_used u i)
  here_behind_block b (free i vacant) = here_behind_free b.range i

  pub here_walk : (a end : ℕ) → BehindBlock s a end → IsOwned m (word_range a)
  here_walk a end (block_behind (b, has, begins)) = subst (λ k. IsOwned m (word_range k)) begins (here_block b has)
  here_walk a end (end_behind c i begins ends) =
      own-word m (last_bytes c) a (here_last c i) (omega (arith, begins)) (omega (arith, begins, (v.well_formed.chunks c i).has_room))

  -- a used block's bytes from an address on are here: then nothing is out but usable bytes of the other payloads, and those of this one before that address
  pub own_but_front : (u : Used) → IsIn u s.used → (x : ℕ) → IsOwned m (between x (end_of u.block)) → (a : ℕ) → m.start ≤ a → (a < u.payload) ⊎ (x ≤ a)
      → IsUnlent (released s u) a → (c : Range) → IsIn c s.chunks → c.start ≤ a → a < end_of c → is_own (out_at m a) ≡ true
  own_but_front u i x own a from side unlent c is_chunk begins ends = elim side [
    | inl before ↦ v.own a from (λ y j. elim (cases_eq y.payload u.payload) [
      | inl same ↦ inl (omega arith)
      | inr other ↦ unlent y (IsIn-others_from u.payload y s.used j other)
    ]) c is_chunk begins ends
    | inr low ↦ elim (cases_lt a (end_of u.block)) [
      | inl within ↦ own a low (omega (arith, low, within))
      | inr past ↦ v.own a from (λ y j. elim (cases_eq y.payload u.payload) [
        | inl same ↦
            let has_u : Has u.block (u.payload - 1) = record { from = omega (arith, after u i); to = omega (arith, after u i, (v.well_formed.used u i).within) } in
            let has_y : Has y.block (u.payload - 1) = record { from = omega (arith, after y j, same); to = omega (arith, after y j, same, (v.well_formed.used y j).within) } in
            inr (subst (λ (z : Used). end_of z.block ≤ a) (sym (used_used v.well_formed y u (u.payload - 1) j i has_y has_u)) past)
        | inr other ↦ unlent y (IsIn-others_from u.payload y s.used j other)
      ]) c is_chunk begins ends
    ]
  ]

  pub here_released : (u : Used) → IsIn u s.used → IsOwned m (usable u) → OwnsChunks m (released s u)
  here_released u i own a from unlent =
      own_but_front u i u.payload (λ k lo hi. own k lo (omega (arith, hi, (v.well_formed.used u i).within))) a from (cases_lt a u.payload) unlent
