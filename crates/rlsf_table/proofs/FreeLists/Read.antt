-- The links of a free block are words, so that they can be read.
use Rattle.std.proofs.Common.{◌≡◌, ℕ, ◌+◌, ◌^◌, ◌<◌, List, [], ◌∷◌, ◌++◌, length, arith, inl, inr, refl, sym, subst}
use Rattle.rlsf_base.specs.declared.memory.range.Range.{Range}
use Rattle.rlsf_base.specs.Space.{Space, word_at}
use Rattle.rlsf_base.specs.OpenSpace.{IsReadable}
use Rattle.rlsf_base.proofs.Lending.WordIsHere.{is_word}
use Rattle.rlsf_base.proofs.Lending.Present.{own-same}
use Rattle.rlsf_model.specs.Lists.{IsIn}
use Rattle.rlsf_model.proofs.Coverage.{IsIn-append_left, IsIn-append_right}
use Rattle.rlsf_table.specs.FreeList.{Links}
use Rattle.rlsf_table.specs.Rewrites.{CanBeBlock}
use Rattle.rlsf_table.specs.Steps.ClassList.{IsFreeList}
use Rattle.rlsf_table.proofs.FreeLists.Chains.{IsIn-split, Links-behind, previous_of}
use Rattle.rlsf_table.proofs.Words.Writes.{IsWritable-at}

-- where a list begins, or 0, is a word
head-fits : (m : Space) (p : ℕ) (free : List Range) (head : ℕ) → ((f : Range) → IsIn f free → CanBeBlock m f) → m.start + length m.bytes < 2 ^ 64
    → Links m p free head → head < 2 ^ 64
head-fits m p [] head placed fits links = omega (arith, links)
head-fits m p (f ∷ fs) head placed fits links = let is = placed f (inl refl) in omega (arith, links.0, is.lies_in, is.room)

module _ {m : Space} {newest : ℕ} {free : List Range} (r : Range) (i : IsIn r free) (list : IsFreeList m newest free) where
  next-fits : word_at m (r.start + 16) < 2 ^ 64
  next-fits =
      let parts = IsIn-split r free i in
      let links : Links m 0 (parts.0 ++ (r ∷ parts.1)) newest = subst (λ l. Links m 0 l newest) parts.2 list.links in
      head-fits m r.start parts.1 (word_at m (r.start + 16)) (λ f j. list.placed f (subst (λ l. IsIn f l) (sym parts.2) (IsIn-append_right f parts.0 (r ∷ parts.1) (inr j))))
      list.addressable (Links-behind m 0 parts.0 r parts.1 newest links)

  previous-fits : word_at m (r.start + 24) < 2 ^ 64
  previous-fits = grind (arith, IsIn-split, previous_of, IsIn-append_left)

  pub next_word : {block : ℕ} → r.start ≡ block → IsReadable m (block + 16)
  next_word {block} place =
      is_word m (block + 16) (IsWritable-at 16 (omega arith) refl place (list.placed r i) m refl refl (own-same m m refl refl))
      (subst (λ a. word_at m (a + 16) < 2 ^ 64) place next-fits)

  pub previous_word : {block : ℕ} → r.start ≡ block → IsReadable m (block + 24)
  previous_word {block} place =
      is_word m (block + 24) (IsWritable-at 24 (omega arith) refl place (list.placed r i) m refl refl (own-same m m refl refl))
      (subst (λ a. word_at m (a + 24) < 2 ^ 64) place previous-fits)
