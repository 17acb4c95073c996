-- A memory of which nothing is out: its words can be read and written, and nothing is out after that.
use Rattle.std.proofs.Common.{◌≡◌, ℕ, ◌-◌, [], sym, subst, ◌∙◌}
use Rattle.rlsf_base.specs.declared.memory.range.Range.{Range}
use Rattle.rlsf_base.specs.Space.{Space, IsWord, word_range}
use Rattle.rlsf_base.specs.OpenSpace.{IsReadable, IsWritable, out_with}
use Rattle.rlsf_base.proofs.Changes.{back-none}
use Rattle.rlsf_base.proofs.Lending.Present.{here-none, own-none}

module _ {m n : Space} (same : m ≡ n) (none : m.out ≡ []) where
  pub readable : {a : ℕ} → IsWord n a → IsReadable m a
  readable {a} word = let w = subst (λ s. IsWord s a) (sym same) word in (w.0, w.1, here-none m (word_range a) none)

  pub writable : {a : ℕ} → IsWord n a → IsWritable m a
  writable {a} word = let w = subst (λ s. IsWord s a) (sym same) word in (w.0, w.1, own-none m (word_range a) none)

-- a range that is written, or comes back
pub none-with : (m n : Space) (r : Range) → n.out ≡ out_with m r → m.out ≡ [] → n.out ≡ []
none-with m n r out none = out ∙ back-none m.out (r.start - m.start) r.len none
