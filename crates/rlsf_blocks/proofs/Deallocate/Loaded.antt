-- What is known of words, and of free neighbours, once words were read and counted.
use Rattle.rlsf_base.proofs.Lending.Present.{here-same}
use Rattle.std.proofs.Common.{◌≡◌, ℕ, ◌+◌, List, length, arith, ◌∙◌, ap, sym}
use Rattle.rlsf_base.specs.declared.memory.range.Range.{Range}
use Rattle.rlsf_base.specs.Space.{Space, word_range, word_at}
use Rattle.rlsf_base.specs.OpenSpace.{IsReadable}
use Rattle.rlsf_table.specs.Table.{Table}
use Rattle.rlsf_table.proofs.FreeLists.Counted.{Rewrites-counted_first, word_at-counted}
use Rattle.rlsf_blocks.specs.Steps.Join.{IsMarked, IsNextOut}

module _ (m n : Space) (start : n.start ≡ m.start) (bytes : n.bytes ≡ m.bytes) (out : n.out ≡ m.out) where
  pub IsReadable-loaded : {a : ℕ} → IsReadable m a → IsReadable n a
  IsReadable-loaded {a} placed = (placed.0, (omega (arith, start, placed.1), omega (arith, start, ap length bytes, placed.1)), here-same m n (word_range a) start out placed.2)

  -- what was read is read again
  pub word_at-loaded : (a word : ℕ) → word ≡ word_at m a → word ≡ word_at n a
  word_at-loaded a word is = is ∙ sym (word_at-counted m n start bytes out a)

  pub IsMarked-loaded : {free : List Range} {a : ℕ} → IsMarked m free a → IsMarked n free a
  IsMarked-loaded {a = a} marked = grind (arith, word_at-counted, IsReadable-loaded)

  -- a block was taken out after that
  pub IsNextOut-loaded : {fllen sllen : ℕ} {o : Space} {t : Table} {free : List Range} {a len : ℕ} → IsNextOut fllen sllen n o t free a len
      → IsNextOut fllen sllen m o t free a len
  IsNextOut-loaded next = record { rewrites = Rewrites-counted_first m n start bytes out next.rewrites; list = next.list; end = next.end }

-- the same words are in a memory with more touches
pub word_at-touched : (m n : Space) (more : ℕ) → n ≡ record m { touches = m.touches + more } → (a : ℕ) → word_at n a ≡ word_at m a
word_at-touched m n more same a = word_at-counted m n (ap (λ (o : Space). o.start) same) (ap (λ (o : Space). o.bytes) same) (ap (λ (o : Space). o.out) same) a
