-- What the size words say of a block and of what is behind it.
use Rattle.std.proofs.Common.{◌≡◌, ◌≢◌, ℕ, cond, ◌+◌, ◌%◌, arith, sym, ◌∙◌, ap}
use Rattle.std.proofs.lemmas.Bool.{eq-eqb, ne_eqb}
use Rattle.rlsf_base.specs.declared.memory.range.Range.{Range}
use Rattle.rlsf_base.specs.Range.{range_at}
use Rattle.rlsf_base.specs.Space.{Space, range_of, word_at}
use Rattle.rlsf_model.specs.Lists.{IsIn}
use Rattle.rlsf_model.specs.State.{State}
use Rattle.rlsf_model.specs.WellFormed.{IsWellFormed}
use Rattle.rlsf_table.specs.Table.{Table}
use Rattle.rlsf_blocks.specs.Blocks.{Block, HasBlock, used, free}
use Rattle.rlsf_blocks.specs.InBand.{sentinel_of, HasSizes}
use Rattle.rlsf_blocks.specs.StandsFor.{contents, StandsFor}
use Rattle.rlsf_blocks.specs.Steps.Walk.{BlockBegins, block_at, next_start}
use Rattle.rlsf_blocks.proofs.Walking.Blocks.{Block-same}

-- a range by its start and its length
Range-same : (r : Range) (start len : ℕ) → start ≡ r.start → len ≡ r.len → range_at start len ≡ r
Range-same r start len same_start same_len = ap (λ a. range_at a len) same_start ∙ ap (λ n. range_at r.start n) same_len

-- the size word of a block isn't that of a sentinel
pub block_word : {fllen sllen : ℕ} {m : Space} {s : State} → IsWellFormed fllen sllen (range_of m) s → HasSizes m s → (b : Block) → HasBlock s b
    → word_at m b.range.start ≢ 35
block_word {m = m} w sizes b (used u i same o) sentinel = omega (arith, sentinel, ap (λ r. word_at m r.start) same, sizes.used u i, (w.used u i).whole.len)
block_word w sizes b (free i o) sentinel = omega (arith, sentinel, sizes.free b.range i, (w.free b.range i).whole.len)

module _ {fllen sllen : ℕ} {m : Space} {t : Table} {s : State} (v : StandsFor fllen sllen (contents m t) s) where
  -- the size word of a block names the block
  pub block_at-block : (b : Block) → HasBlock s b → block_at m b.range.start ≡ b
  block_at-block b (used u i same o) =
      let whole = (v.well_formed.used u i).whole in
      let word : word_at m b.range.start ≡ b.range.len + 1 = ap (λ r. word_at m r.start) same ∙ v.sizes.used u i ∙ ap (λ r. r.len + 1) (sym same) in
      let len = ap (λ r. r.len) same in
      Block-same (block_at m b.range.start) b (Range-same b.range b.range.start _ (omega arith) (omega (arith, word, len, whole.len)))
      (eq-eqb (word_at m b.range.start % 2) 1 (omega (arith, word, len, whole.len)) ∙ sym o)
  block_at-block b (free i o) =
      let whole = (v.well_formed.free b.range i).whole in
      let word = v.sizes.free b.range i in
      Block-same (block_at m b.range.start) b (Range-same b.range b.range.start _ (omega arith) (omega (arith, word, whole.len)))
      (ne_eqb (word_at m b.range.start % 2) 1 (λ odd. omega (arith, odd, word, whole.len)) ∙ sym o)

  -- where a block begins, the next block begins there
  pub next_start-block : (a : ℕ) → BlockBegins s a → next_start m a ≡ a
  next_start-block a (b, i, at) =
      ap (λ t. cond t (a + 32) a) (ne_eqb (word_at m a) 35 (λ sentinel. block_word v.well_formed v.sizes b i (ap (word_at m) at ∙ sentinel)))

  -- where a sentinel begins, the next block begins behind it
  pub next_start-sentinel : (a : ℕ) (c : Range) → IsIn c s.chunks → sentinel_of c ≡ a → next_start m a ≡ a + 32
  next_start-sentinel a c i at = ap (λ t. cond t (a + 32) a) (eq-eqb (word_at m a) 35 (ap (word_at m) (sym at) ∙ v.sizes.sentinel c i))
