-- A check passes each block and each chunk of a state whose words the memory has.
use Rattle.std.proofs.Common.{◌≡◌, ◌≢◌, ◌⊎◌, ℕ, ◌+◌, ◌-◌, ◌%◌, ◌<◌, ◌≤◌, List, arith, sym, ◌∙◌, ap, subst, inl, inr}
use Rattle.std.proofs.lemmas.Bool.{cases_lt}
use Rattle.rlsf_base.specs.declared.memory.range.Range.{Range}
use Rattle.rlsf_base.specs.Range.{end_of}
use Rattle.rlsf_model_sizes.specs.Sizes.{IsSize}
use Rattle.rlsf_base.specs.Space.{IsWord, Space, range_of, word_at}
use Rattle.rlsf_blocks.specs.Blocks.{Block, HasBlock, free, used}
use Rattle.rlsf_blocks.specs.Steps.Walk.{BlockBegins}
use Rattle.rlsf_blocks.proofs.Walking.Begins.{BehindBlock, block_behind, end_behind}
use Rattle.rlsf_blocks.proofs.Walking.Blocks.{IsWhole-block, block-some, home_of_block}
use Rattle.rlsf_blocks.proofs.Walking.ChunkEnds.{IsInChunk, IsInChunk-behind, IsInChunk-start}
use Rattle.rlsf_blocks.proofs.Walking.Sizes.{block_word}
use Rattle.rlsf_blocks.proofs.Words.NeverOut.{block-fits, walk-fits}
use Rattle.rlsf_blocks.proofs.Words.Apart.{chunk_chunk}
use Rattle.rlsf_model.specs.ChunkRows.{IsRow}
use Rattle.rlsf_model.specs.Lists.{IsIn}
use Rattle.rlsf_model.specs.State.{State, between}
use Rattle.rlsf_table.specs.Table.{Table}
use Rattle.rlsf_blocks.specs.Consistency.Layout.{HasInBandLayout}
use Rattle.rlsf_blocks.specs.Consistency.Linked.{IsLinked}
use Rattle.rlsf_blocks.specs.Steps.BlockAt.{IsBlockTo, IsUsedOrFree}
use Rattle.rlsf_blocks.specs.Steps.Legible.{IsLegible, IsLegibleBlock}
use Rattle.rlsf_blocks.proofs.Consistency.Reading.{HasLegibleLinks-linked, legible, legible_is, readable_is}

module _ {fllen sllen : ℕ} {ps : List ℕ} {m : Space} {t : Table} {r : Range} {s : State} (v : HasInBandLayout fllen sllen ps m t r s) where
  -- the word behind a block names it
  named : (b : Block) → HasBlock s b → word_at m (end_of b.range + 8) ≡ b.range.start
  named b (used u i same o) = ap (λ r. word_at m (end_of r + 8)) same ∙ v.previous.used u i ∙ ap (λ r. r.start) (sym same)
  named b (free i o) = v.previous.free b.range i

  -- a block with an even size word is free
  even_free : (b : Block) → HasBlock s b → word_at m b.range.start % 2 ≡ 0 → IsIn b.range s.free
  even_free b (used u i same o) even =
      absurd (omega (arith, even, ap (λ r. word_at m r.start) same, v.sizes.used u i, (v.well_formed.used u i).whole.len))
  even_free b (free i o) even = i

  -- what is behind a free block is not free
  closed : (f : Range) → IsIn f s.free → (end : ℕ) → BehindBlock s (end_of f) end → word_at m (end_of f) % 2 ≡ 1
  closed f i end (block_behind (b, j, at)) = elim (cases_lt 0 (word_at m (end_of f) % 2)) [
    | inl odd ↦ omega (arith, odd)
    | inr even ↦
        absurd (v.well_formed.apart f b.range i (even_free b j (ap (λ a. word_at m a % 2) at ∙ (omega (arith, even)))) (sym at))
  ]
  closed f i end (end_behind c j at ends) = omega (arith, ap (word_at m) at, v.sizes.sentinel c j)

  kind : (b : Block) → HasBlock s b → (end : ℕ) → BehindBlock s (end_of b.range) end → IsUsedOrFree fllen sllen ps m t b.range.start (end_of b.range)
  kind b (used u i same o) end behind =
      inl (omega (arith, ap (λ r. word_at m r.start) same, v.sizes.used u i, ap (λ (x : Range). x.len) same))
  kind b (free i o) end behind =
      let len : b.range.len ≡ end_of b.range - b.range.start = omega arith in
      inr (
        v.sizes.free b.range i ∙ len,
        closed b.range i end behind,
        subst (λ n. IsLinked fllen sllen ps m t (record { start = b.range.start; len = n })) len (v.linked b.range i),
      )

  module _ (c : Range) (i : IsIn c s.chunks) where
    module _ {a : ℕ} (is : IsInChunk s c a) where
      -- where the word is a sentinel's, the chunk ends behind it
      pub ends_there : word_at m a ≡ 35 → a + 32 ≡ end_of c
      ends_there sentinel = grind (arith, block_behind, block_word, end_behind)

      -- where it is another one, a block begins
      block_there : word_at m a ≢ 35 → BlockBegins s a
      block_there other = grind (arith, block_behind, end_behind)

      -- and behind it the check goes on
      pub goes_on : (end : ℕ) → end_of c ≤ end → word_at m a ≢ 35 → (stop : ℕ) × IsBlockTo fllen sllen ps m t a end stop × IsInChunk s c stop
      goes_on end within other =
          let (b, j, at) = block_there other in
          let whole = IsWhole-block v.well_formed b j in
          let next = IsInChunk-behind v.well_formed c i is b j at in (
            end_of b.range,
            subst (λ x. IsBlockTo fllen sllen ps m t x end (end_of b.range)) at (record {
              some = omega (arith, block-some v.well_formed b j);
              whole = omega (arith, whole.start, whole.len);
              before_end = omega (arith, next.to, within);
              named = named b j;
              kind = kind b j (end_of c) next.at;
            }),
            next,
          )

    -- a chunk doesn't begin with its sentinel
    pub not_at_start : (start : ℕ) → c.start ≡ start → word_at m start ≢ 35
    not_at_start start at sentinel =
        let ends = ends_there (IsInChunk-start v.well_formed c i start at) sentinel in
        omega (arith, ends, at, (v.well_formed.chunks c i).has_room)

  -- the first chunk of a row, and the rest of it
  pub row_first : (start end : ℕ) → start < end → IsRow s (between start end)
      → (c : Range) × IsIn c s.chunks × (c.start ≡ start) × (end_of c ≤ end) × IsRow s (between (end_of c) end)
  row_first start end some row =
      let (c, i, from, at, past, up_to) = row start (omega arith) (omega (arith, some)) in
      let within : end_of c ≤ end = omega (arith, up_to, some) in (
        c,
        i,
        omega (arith, from, at),
        within,
        λ a low high.
            let (d, j, d_from, d_at, d_past, d_up_to) = row a (omega (arith, low, at, past)) (omega (arith, high, within, some)) in
            let behind : end_of c ≤ d.start = elim (cases_lt d.start (end_of c)) [
              | inl before ↦
                  let same = chunk_chunk v.well_formed d c d.start j i (record { from = omega arith; to = omega (arith, d_at, d_past) })
                  (record { from = omega (arith, d_from, from, at); to = before }) in
                  absurd (omega (arith, ap (λ x. end_of x) same, d_past, low))
              | inr past ↦ past
            ] in
            (d, j, behind, d_at, d_past, omega (arith, d_up_to, some, within)),
      )

  -- ---- the words that are read

  -- a block and what is behind it lie in the memory
  block_in : (b : Block) → HasBlock s b → (m.start ≤ b.range.start) × (end_of b.range + 32 ≤ end_of (range_of m))
  block_in b i =
      let home = home_of_block v.well_formed b i in
      let placed = (v.well_formed.chunks home.chunk home.is_chunk).lies_in in
      (omega (arith, home.from, placed.0), omega (arith, home.to, placed.1))

  -- where the size word is that of a length, that is the block's
  len_is : (b : Block) → HasBlock s b → (len : ℕ) → IsSize len → (word_at m b.range.start ≡ len) ⊎ (word_at m b.range.start ≡ len + 1) → len ≡ b.range.len
  len_is b (used u i same o) len size (inl is) = absurd (omega (arith, size.1, is, ap (λ r. word_at m r.start) same, v.sizes.used u i, (v.well_formed.used u i).whole.len))
  len_is b (used u i same o) len size (inr is) = omega (arith, is, ap (λ r. word_at m r.start) same, v.sizes.used u i, ap (λ (x : Range). x.len) same)
  len_is b (free i o) len size (inl is) = omega (arith, is, v.sizes.free b.range i)
  len_is b (free i o) len size (inr is) = absurd (omega (arith, size.1, is, v.sizes.free b.range i, (v.well_formed.free b.range i).whole.len))

  legible_block : (b : Block) → HasBlock s b → (end : ℕ) → BehindBlock s (end_of b.range) end → IsLegibleBlock ps m b.range.start
  legible_block b i end behind =
      let lies = block_in b i in
      let some = block-some v.well_formed b i in
      let word : IsWord m b.range.start = (omega (arith, (IsWhole-block v.well_formed b i).start), (omega (arith, lies.0), omega (arith, lies.1, some))) in
      record {
        size = readable_is m b.range.start (block-fits v.well_formed v.sizes b i) word;
        behind = λ len size is.
            let at : end_of b.range ≡ b.range.start + len = omega (arith, len_is b i len size is) in (
              subst (IsLegible ps m) at (legible ps m (end_of b.range) (walk-fits v.well_formed v.sizes (end_of b.range) end behind)),
              subst (λ a. IsLegible ps m (a + 8)) at (legible_is ps m (end_of b.range + 8) b.range.start (named b i) (omega (arith, lies.1, v.well_formed.addressable))),
            );
        links = λ size.
            let f = even_free b i (omega (arith, size.1)) in
            HasLegibleLinks-linked fllen sllen ps m t v.well_formed.addressable b.range (omega (arith, lies.1, v.well_formed.addressable)) (v.linked b.range f);
      }

  module _ (c : Range) (i : IsIn c s.chunks) where
    -- the first word of a chunk that is read
    pub legible_first : (start : ℕ) → c.start ≡ start → IsLegible ps m (start + 8)
    legible_first start at = subst (λ a. IsLegible ps m (a + 8)) at (legible_is ps m (c.start + 8) 0 (v.previous.first c i) (omega arith))

    -- the word where a check is, and if it isn't a sentinel's, those of its block
    pub legible_there : {a : ℕ} → IsInChunk s c a → IsLegible ps m a
    legible_there {a} is = legible ps m a (walk-fits v.well_formed v.sizes a (end_of c) is.at)

    pub IsLegibleBlock-there : {a : ℕ} → IsInChunk s c a → word_at m a ≢ 35 → IsLegibleBlock ps m a
    IsLegibleBlock-there {a} is other =
        let (b, j, at) = block_there c i is other in
        subst (IsLegibleBlock ps m) at (legible_block b j (end_of c) (IsInChunk-behind v.well_formed c i is b j at).at)
