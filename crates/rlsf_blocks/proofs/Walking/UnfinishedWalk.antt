-- An iteration that is underway and not at its end.
use Rattle.rlsf_blocks.proofs.Walking.Begins.{behind_block}
use Rattle.rlsf_base.proofs.Lending.WordIsHere.{is_word}
use Rattle.rlsf_base.proofs.Lending.Present.{own-word}
use Rattle.rlsf_blocks.proofs.Words.NeverOut.{here_block, here_behind_block, block-fits, walk-fits}
use Rattle.std.proofs.Common.{◌≡◌, ◌≢◌, ℕ, cond, eqb, ◌+◌, ◌*◌, ◌/◌, ◌%◌, ◌^◌, ◌<◌, ◌∷◌, arith, inl, inr, sym, ◌∙◌, ap, subst}
use Rattle.std.proofs.lemmas.Bool.{cases_lt, eq-eqb, ne_eqb}
use Rattle.rlsf_base.specs.Range.{range_at, end_of}
use Rattle.rlsf_base.specs.Space.{Space, word_range, word_at}
use Rattle.rlsf_base.specs.OpenSpace.{IsOwned, IsReadable}
use Rattle.rlsf_blocks.specs.Blocks.{Block, IsBlock}
use Rattle.rlsf_blocks.specs.Steps.Walk.{IsUnderway, blocks_between, next_start}
use Rattle.rlsf_blocks.proofs.Walking.Blocks.{IsWhole-block, block-some, home_of_block}
use Rattle.rlsf_blocks.proofs.Walking.Listed.{blocks_between-more}
use Rattle.rlsf_blocks.proofs.Walking.Steps.{step_of}

-- the block by a size word at an address
abbrev pub block_by : ℕ → ℕ → Block
block_by start word = record { range = range_at start (word / 32 * 32); is_occupied = eqb (word % 2) 1 }

-- the first block of an iteration, by its size word: its words lie in the memory, which goes on for 32 bytes behind it
pub record IsFirst (m : Space) (start end word : ℕ) : Type 0 where
  pub size : IsReadable m start
  pub behind : IsReadable m (start + word / 32 * 32)
  pub past : start + word / 32 * 32 + 32 < 2 ^ 64
  pub block : IsBlock (block_by start word)
  pub next : IsUnderway m (next_start m (start + word / 32 * 32)) end
  pub list : blocks_between m start end ≡ block_by start word ∷ blocks_between m (next_start m (start + word / 32 * 32)) end

pub IsFirst-underway : (m : Space) (start end : ℕ) → IsUnderway m start end → start ≢ end → IsFirst m start end (word_at m start)
IsFirst-underway m start end (fllen, sllen, t, s, v, is) more =
    let lt : start < end = elim (cases_lt start end) [ inl lt ↦ lt | inr over ↦ absurd (more (omega (arith, over, is.within))) ] in
    let step = step_of v start end is lt in
    let w = v.well_formed in
    let whole = IsWhole-block w step.block step.has in
    let some = block-some w step.block step.has in
    let home = home_of_block w step.block step.has in
    let placed = (w.chunks home.chunk home.is_chunk).lies_in in
    let len : word_at m start / 32 * 32 ≡ step.block.range.len = ap (λ (b : Block). b.range.len) step.at in
    record {
      size =
          is_word m start (
            omega (arith, step.begins, whole.start),
            (omega (arith, step.begins, home.from, placed.0), omega (arith, step.begins, some, whole.len, home.to, placed.1)),
            subst (λ a. IsOwned m (word_range a)) step.begins (here_block v step.block step.has),
          )
          (subst (λ a. word_at m a < 2 ^ 64) step.begins (block-fits w v.sizes step.block step.has));
      behind = is_word m (start + word_at m start / 32 * 32) (
        omega (arith, step.begins, whole.start, len, whole.len),
        (omega (arith, step.begins, home.from, placed.0), omega (arith, step.begins, len, home.to, placed.1)),
        own-word m (range_at (end_of step.block.range) 16) (start + word_at m start / 32 * 32) (here_behind_block v step.block step.has) (omega (arith, step.begins, len))
            (omega (arith, step.begins, len)),
      ) (subst (λ a. word_at m a < 2 ^ 64) (let e : end_of step.block.range ≡ start + word_at m start / 32 * 32 = omega (arith, step.begins, len) in e)
          (walk-fits w v.sizes (end_of step.block.range) (end_of home.chunk)
          (behind_block w step.block step.has home.chunk home.is_chunk (record { from = home.from; to = omega (arith, home.to, some) }))));
      past = omega (arith, step.begins, len, home.to, placed.1, w.addressable);
      block = record {
        len = omega (arith, len, whole.len);
        some = omega (arith, len, some);
        addressable = omega (arith, step.begins, len, home.to, placed.1, w.addressable);
      };
      next = (fllen, sllen, t, s, v, step.rest);
      list = blocks_between-more v start end is lt;
    }

-- the same by the word that was read
pub IsFirst-word : (m : Space) (start end word : ℕ) → word ≡ word_at m start → IsUnderway m start end → start ≢ end → IsFirst m start end word
IsFirst-word m start end word same underway more = subst (IsFirst m start end) (sym same) (IsFirst-underway m start end underway more)

-- where the next block begins, by the word behind a block
pub next_start-then : (m : Space) (a next word : ℕ) → word ≡ word_at m a → word ≡ 35 → next ≡ a + 32 → next_start m a ≡ next
next_start-then m a next word same last at = ap (λ t. cond t (a + 32) a) (eq-eqb (word_at m a) 35 (sym same ∙ last)) ∙ sym at

pub next_start-else : (m : Space) (a next word : ℕ) → word ≡ word_at m a → word ≢ 35 → next ≡ a → next_start m a ≡ next
next_start-else m a next word same other at = ap (λ t. cond t (a + 32) a) (ne_eqb (word_at m a) 35 (λ last. other (same ∙ last))) ∙ sym at
