-- Words that were written, one after another, and the words of placed blocks.
use Rattle.std.proofs.Common.{◌≡◌, ℕ, ◌+◌, ◌%◌, ◌^◌, ◌<◌, ◌≤◌, ◌⊎◌, List, length, arith, inl, inr, refl, sym, subst}
use Rattle.rlsf_base.specs.declared.memory.range.Range.{Range}
use Rattle.rlsf_base.specs.Space.{Space, word_range, word_at, with_word}
use Rattle.rlsf_base.specs.OpenSpace.{IsWritable, SameOwn, out_with}
use Rattle.rlsf_base.proofs.Lending.Present.{own-there, own-inside}
use Rattle.rlsf_base.proofs.Words.Written.{here-written, none-written, is_own-written, out_at-other, bytes_in-with_word, length-with_word, word_at-other, word_at-same}
use Rattle.rlsf_table.specs.Rewrites.{IsLink, CanBeBlock, Rewrites}
use Rattle.rlsf_model.specs.Lists.{IsIn}

pub Rewrites-refl : (m : Space) (at : ℕ → Type 0) → Rewrites m m at
Rewrites-refl m at = grind arith

-- one word was written
pub Rewrites-word : (m n : Space) (addr word : ℕ) → IsWritable m addr → n.start ≡ m.start → n.bytes ≡ with_word m addr word → n.out ≡ out_with m (word_range addr)
    → Rewrites m n (λ a. a ≡ addr)
Rewrites-word m n addr word placed start bytes out = record {
  start = start;
  none = none-written m n addr word placed start bytes out;
  own = is_own-written m n addr word placed start bytes out;
  here = here-written m n addr word placed start bytes out;
  kept = λ a inside apart. out_at-other m n addr word placed start bytes out a inside (apart addr refl);
  length = length-with_word m n addr word placed start bytes out;
  words = λ a whole inside other. word_at-other m n addr word placed start bytes out a whole inside other;
  bytes = λ r inside apart. bytes_in-with_word m n addr word placed start bytes out r inside (apart addr refl);
}

pub Rewrites-weaken : {m n : Space} {P Q : ℕ → Type 0} → ((a : ℕ) → P a → Q a) → Rewrites m n P → Rewrites m n Q
Rewrites-weaken more h = grind arith

pub Rewrites-trans : {m n o : Space} {P Q : ℕ → Type 0} → Rewrites m n P → Rewrites n o Q → Rewrites m o (λ a. P a ⊎ Q a)
Rewrites-trans {m} {n} h k = grind arith

-- a link is 16 or 24 bytes into a block
pub link_place : (free : List Range) → ((f : Range) → IsIn f free → f.start % 32 ≡ 0) → (a : ℕ) → IsLink free a → (a % 32 ≡ 16) ⊎ (a % 32 ≡ 24)
link_place free whole a (f, i, inl at) = inl (omega (arith, whole f i))
link_place free whole a (f, i, inr at) = inr (omega (arith, whole f i))

-- so linking leaves the first two words of each block
pub before_links : {m n : Space} (free : List Range) → ((f : Range) → IsIn f free → f.start % 32 ≡ 0) → Rewrites m n (IsLink free)
    → (a : ℕ) → (a % 32 ≡ 0) ⊎ (a % 32 ≡ 8) → m.start ≤ a → word_at n a ≡ word_at m a
before_links free whole linked a place from = linked.words a (aligned place) from (λ link. apart place (link_place free whole a link))
  where
    aligned : (a % 32 ≡ 0) ⊎ (a % 32 ≡ 8) → a % 8 ≡ 0
    aligned (inl at) = omega arith
    aligned (inr at) = omega arith

    apart : (a % 32 ≡ 0) ⊎ (a % 32 ≡ 8) → (a % 32 ≡ 16) ⊎ (a % 32 ≡ 24) → ⊥
    apart (inl at) (inl link) = omega arith
    apart (inl at) (inr link) = omega arith
    apart (inr at) (inl link) = omega arith
    apart (inr at) (inr link) = omega arith

-- a word was written at an address, if something holds, and else nothing
pub record Writes (m n : Space) (some : Type 0) (addr word : ℕ) : Type 0 where
  pub rewrites : Rewrites m n (λ a. some × (a ≡ addr))
  pub reads : some → word_at n addr ≡ word

pub Writes-some : {m n : Space} {addr word : ℕ} (some : Type 0) → some → IsWritable m addr → word < 2 ^ 64 → n.start ≡ m.start → n.bytes ≡ with_word m addr word
    → n.out ≡ out_with m (word_range addr) → Writes m n some addr word
Writes-some {m} {n} {addr} {word} some holds placed fits start bytes out = record {
  rewrites = Rewrites-weaken (λ a e. (holds, e)) (Rewrites-word m n addr word placed start bytes out);
  reads = λ s. word_at-same m n addr word placed start bytes out fits;
}

pub Writes-none : (m n : Space) (some : Type 0) (addr word : ℕ) → n ≡ m → ¬ some → Writes m n some addr word
Writes-none m n some addr word same none =
    subst (λ x. Writes m x some addr word) (sym same) (record { rewrites = Rewrites-refl m (λ a. some × (a ≡ addr)); reads = λ s. absurd (none s) })

-- ---- placed blocks

pub CanBeBlock-Rewrites : {m n : Space} {at : ℕ → Type 0} {f : Range} → Rewrites m n at → CanBeBlock m f → CanBeBlock n f
CanBeBlock-Rewrites {m} {n} {f = f} h p = grind (arith, own-there)

-- the word at `block + i` of the block at `block`, in the memory or in another one of the same place and length; its address fits in a word
module _ {m : Space} {f : Range} {block : ℕ} (i : ℕ) (within : i + 8 ≤ 32) (whole : i % 8 ≡ 0) (place : f.start ≡ block) (p : CanBeBlock m f) where
  pub IsWritable-at : (n : Space) → n.start ≡ m.start → length n.bytes ≡ length m.bytes → SameOwn m n → IsWritable n (block + i)
  IsWritable-at n start same own = grind (arith, own-there, own-inside)

  pub fits_at : m.start + length m.bytes < 2 ^ 64 → block + i < 2 ^ 64
  fits_at addressable = omega (arith, p.lies_in, p.room)
