-- One written word.
use Rattle.std.proofs.Common.{◌≡◌, ℕ, ◌^◌, ◌<◌, ap, ◌∙◌}
use mathlib.Core.Path.{ap₂}
use Rattle.rlsf_base.specs.Space.{Space, word_range, word_at, with_word}
use Rattle.rlsf_base.specs.OpenSpace.{IsWritable, out_with}
use Rattle.rlsf_base.proofs.Words.Written.{word_at-same}
use Rattle.rlsf_table.specs.Rewrites.{Rewrites}
use Rattle.rlsf_table.proofs.Words.Writes.{Rewrites-word}

-- what one written word leaves
pub record IsWrite (m n : Space) (addr word : ℕ) : Type 0 where
  pub placed : IsWritable m addr
  pub start : n.start ≡ m.start
  pub bytes : n.bytes ≡ with_word m addr word
  pub fits : word < 2 ^ 64
  pub out : n.out ≡ out_with m (word_range addr)

-- where a word was put, and which, need only equal its address and the word
pub wrote : (m n : Space) (addr word : ℕ) {at put : ℕ} → n.bytes ≡ with_word m at put → at ≡ addr → put ≡ word → n.bytes ≡ with_word m addr word
wrote m n addr word written here same = written ∙ ap₂ (with_word m) here same

pub wrote_there : (m n : Space) (addr : ℕ) {at : ℕ} → n.out ≡ out_with m (word_range at) → at ≡ addr → n.out ≡ out_with m (word_range addr)
wrote_there m n addr written same = written ∙ ap (λ a. out_with m (word_range a)) same

pub write : {m n : Space} {addr word : ℕ} → IsWritable m addr → n.start ≡ m.start → n.bytes ≡ with_word m addr word → word < 2 ^ 64
    → n.out ≡ out_with m (word_range addr) → IsWrite m n addr word
write placed start bytes fits out = record { out = out; placed = placed; start = start; bytes = bytes; fits = fits }

pub rewrites_of : {m n : Space} {addr word : ℕ} → IsWrite m n addr word → Rewrites m n (λ a. a ≡ addr)
rewrites_of {m} {n} {addr} {word} h = Rewrites-word m n addr word h.placed h.start h.bytes h.out

pub reads_of : {m n : Space} {addr word : ℕ} → IsWrite m n addr word → word_at n addr ≡ word
reads_of {m} {n} {addr} {word} h = word_at-same m n addr word h.placed h.start h.bytes h.out h.fits
