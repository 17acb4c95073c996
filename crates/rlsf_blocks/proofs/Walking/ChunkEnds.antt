-- An iteration over the blocks of one chunk, up to its sentinel.
use Rattle.rlsf_base.proofs.Lending.WordIsHere.{is_word}
use Rattle.rlsf_blocks.proofs.Words.NeverOut.{here_walk, walk-fits}
use Rattle.std.proofs.Common.{◌≡◌, ◌≢◌, ℕ, ◌+◌, ◌*◌, ◌/◌, ◌%◌, ◌<◌, ◌≤◌, arith, sym, ◌∙◌, ap, subst}
use Rattle.rlsf_base.specs.declared.memory.range.Range.{Range}
use Rattle.rlsf_base.specs.Range.{end_of}
use Rattle.rlsf_base.specs.Space.{Space, word_at}
use Rattle.rlsf_base.specs.OpenSpace.{IsReadable}
use Rattle.rlsf_model.specs.Lists.{IsIn}
use Rattle.rlsf_model.specs.State.{State}
use Rattle.rlsf_model.specs.WellFormed.{IsWellFormed}
use Rattle.rlsf_table.specs.Table.{Table}
use Rattle.rlsf_blocks.specs.Blocks.{Block, HasBlock}
use Rattle.rlsf_blocks.specs.StandsFor.{contents, StandsFor}
use Rattle.rlsf_blocks.specs.Steps.Walk.{BlockBegins}
use Rattle.rlsf_blocks.proofs.Walking.Begins.{BehindBlock, block_behind, end_behind, begins_at_chunk, behind_block, lies_in_same_chunk}
use Rattle.rlsf_blocks.proofs.Walking.Blocks.{IsWhole-block, block-some}
use Rattle.rlsf_blocks.proofs.Walking.Sizes.{block_at-block, block_word}

-- the iteration is at a block of the chunk, or at its sentinel
pub record IsInChunk (s : State) (c : Range) (a : ℕ) : Type 0 where
  pub at : BehindBlock s a (end_of c)
  pub whole : a % 32 ≡ 0
  pub from : c.start ≤ a
  pub to : a + 32 ≤ end_of c

module _ {fllen sllen : ℕ} {memory : Range} {s : State} (w : IsWellFormed fllen sllen memory s) (c : Range) (i : IsIn c s.chunks) where
  -- it begins at the chunk's first block
  pub IsInChunk-start : (start : ℕ) → c.start ≡ start → IsInChunk s c start
  IsInChunk-start start at =
      let chunk = w.chunks c i in
      subst (IsInChunk s c) at (record { at = block_behind (begins_at_chunk w c i); whole = chunk.whole.start; from = omega arith; to = omega (arith, chunk.has_room) })

  -- and goes on behind a block
  pub IsInChunk-behind : {a : ℕ} → IsInChunk s c a → (b : Block) → HasBlock s b → b.range.start ≡ a → IsInChunk s c (end_of b.range)
  IsInChunk-behind is b j begins =
      let some = block-some w b j in
      let whole = IsWhole-block w b j in
      let inside =
      lies_in_same_chunk w b j c i b.range.start (record { from = omega arith; to = omega (arith, some) })
      (record { from = omega (arith, begins, is.from); to = omega (arith, begins, is.to) }) in
      let behind = behind_block w b j c i (record { from = inside.0; to = omega (arith, inside.1, some) }) in
      record { at = behind; whole = omega (arith, whole.start, whole.len); from = omega (arith, inside.0); to = inside.1 }

module _ {fllen sllen : ℕ} {m : Space} {t : Table} {s : State} (v : StandsFor fllen sllen (contents m t) s) (c : Range) (i : IsIn c s.chunks) where
  module _ {a : ℕ} (is : IsInChunk s c a) where
    -- a word is there
    pub IsReadable-chunk : IsReadable m a
    IsReadable-chunk = let placed = (v.well_formed.chunks c i).lies_in in
        is_word m a (omega (arith, is.whole), (omega (arith, is.from, placed.0), omega (arith, is.to, placed.1)), here_walk v a (end_of c) is.at)
        (walk-fits v.well_formed v.sizes a (end_of c) is.at)

    -- which is that of the chunk's sentinel, where the iteration is at the chunk's end
    pub end_there : {word : ℕ} → word ≡ word_at m a → word ≡ 35 → a + 32 ≡ end_of c
    end_there {word} read sentinel = grind (arith, block_behind, block_word, end_behind)

    -- a block begins there, where the word is another
    begins_there : {word : ℕ} → word ≡ word_at m a → word ≢ 35 → BlockBegins s a
    begins_there {word} read other = grind (arith, block_behind, end_behind)

    -- and the iteration goes on behind it
    pub IsInChunk-next : {word : ℕ} → word ≡ word_at m a → word ≢ 35 → IsInChunk s c (a + word / 32 * 32) × (a < a + word / 32 * 32)
    IsInChunk-next {word} read other =
        let (b, j, begins) = begins_there read other in
        let some = block-some v.well_formed b j in
        let len : word / 32 * 32 ≡ b.range.len = ap (λ n. n / 32 * 32) (read ∙ ap (word_at m) (sym begins)) ∙ ap (λ (x : Block). x.range.len) (block_at-block v b j) in
        (subst (IsInChunk s c) (omega (arith, begins, len)) (IsInChunk-behind v.well_formed c i is b j begins), omega (arith, len, some))
