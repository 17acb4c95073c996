-- A block put in front of the list.
use Rattle.std.proofs.Common.{◌≡◌, ◌≢◌, ℕ, ◌+◌, ◌%◌, ◌≤◌, List, [], ◌∷◌, arith, inl, inr, refl, sym, ◌∙◌, ap, subst}
use Rattle.std.proofs.lemmas.Bool.{cases_eq}
use Rattle.rlsf_base.specs.declared.memory.range.Range.{Range}
use Rattle.rlsf_base.specs.Space.{Space, word_at}
use Rattle.rlsf_table.specs.Steps.ClassList.{IsFirstOrOwn, IsFreeList}
use Rattle.rlsf_table.specs.FreeList.{Links}
use Rattle.rlsf_table.specs.Rewrites.{IsLink, CanBeBlock, Rewrites}
use Rattle.rlsf_model.specs.Lists.{IsIn}
use Rattle.rlsf_model.specs.WellFormed.{coverage, itself}
use Rattle.rlsf_table.proofs.Words.Writes.{Rewrites-trans, Rewrites-weaken, Writes}
use Rattle.rlsf_table.proofs.FreeLists.Chains.{first_of, head-whole, Links-hung, starts_differ}

-- where the link lies that names the block before a list's first one, or before the block itself, is a multiple of 32
pub own-whole : {first block at : ℕ} → IsFirstOrOwn first block at → first % 32 ≡ 0 → block % 32 ≡ 0 → at % 32 ≡ 0
own-whole {first} is first_whole block_whole = grind (arith, cases_eq)

-- the three writes that put the block at `block` in front of the list that begins with `newest`: the link at `at` is that of
-- its first block, or the block's own, which is written again
pub record Fronts (m n : Space) (newest block at : ℕ) : Type 0 where
  pub one : Space
  pub two : Space
  pub own : IsFirstOrOwn newest block at
  pub next : Writes m one (Unit {0}) (block + 16) newest
  pub back : Writes one two (Unit {0}) (at + 24) block
  pub previous : Writes two n (Unit {0}) (block + 24) 0

-- the newest block is placed
pub newest_placed : {m : Space} {newest : ℕ} {free : List Range} → IsFreeList m newest free → newest ≢ 0 → (f : Range) × (f.start ≡ newest) × CanBeBlock m f
newest_placed {m} {newest} {free} list some = let first = first_of m 0 free newest list.links some in (first.0, sym first.2, list.placed first.0 first.1)

-- so is the one whose link is written
pub own_placed : {m : Space} {newest block at : ℕ} {r : Range} {free : List Range} → IsFreeList m newest free → r.start ≡ block → CanBeBlock m r
    → IsFirstOrOwn newest block at → (f : Range) × (f.start ≡ at) × CanBeBlock m f
own_placed {newest = newest} {r = r} list place placed own = grind (arith, cases_eq, newest_placed)

module _ (m n : Space) (newest block at : ℕ) (r : Range) (free : List Range) (place : r.start ≡ block) (list : IsFreeList m newest free) (placed : CanBeBlock m r)
    (apart : (a : ℕ) → coverage itself (r ∷ free) a ≤ 1) (fronts : Fronts m n newest block at) where
  -- the newest block till now is another one
  newest-other : newest ≢ 0 → newest ≢ block
  newest-other some same =
      let first = first_of m 0 free newest list.links some in
      starts_differ (r ∷ []) free r first.0 apart (inl refl) first.1 (omega (arith, placed.room)) (omega (arith, (list.placed first.0 first.1).room))
      (place ∙ sym same ∙ first.2)

  newest-whole : newest % 32 ≡ 0
  newest-whole = head-whole m 0 free newest list.placed list.links

  block-whole : (block % 32 ≡ 0) × (m.start ≤ block)
  block-whole = (omega (arith, place, placed.whole), omega (arith, place, placed.lies_in))

  at-whole : at % 32 ≡ 0
  at-whole = own-whole fronts.own newest-whole block-whole.0

  -- a word that isn't written
  word_at-front : (a : ℕ) → a % 8 ≡ 0 → m.start ≤ a → a ≢ block + 16 → a ≢ block + 24 → (newest ≢ 0 → a ≢ newest + 24) → word_at n a ≡ word_at m a
  word_at-front a whole inside x y z = grind (arith, cases_eq)

  word_at-front_next : word_at n (block + 16) ≡ newest
  word_at-front_next = grind (arith, block-whole, at-whole)

  word_at-front_previous : word_at n (block + 24) ≡ 0
  word_at-front_previous = fronts.previous.reads tt

  -- the newest block till now names the block
  word_at-front_back : newest ≢ 0 → word_at n (newest + 24) ≡ block
  word_at-front_back some = grind (arith, newest_placed, newest-whole, newest-other)

  apart-behind : (a : ℕ) → coverage itself free a ≤ 1
  apart-behind a = omega (arith, apart a)

  starts-behind : (f : Range) → IsIn f free → f.start ≢ block
  starts-behind f i same = starts_differ (r ∷ []) free r f apart (inl refl) i (omega (arith, placed.room)) (omega (arith, (list.placed f i).room)) (place ∙ sym same)

  -- the list has the block in front
  pub Links-front : Links n 0 (r ∷ free) block
  Links-front =
      let nexts : (f : Range) → IsIn f free → word_at n (f.start + 16) ≡ word_at m (f.start + 16) = λ f i.
      let here = list.placed f i in
      word_at-front (f.start + 16) (omega (arith, here.whole)) (omega (arith, here.lies_in)) (λ e. starts-behind f i (omega (arith, e)))
      (λ e. omega (arith, e, here.whole, block-whole)) (λ s e. omega (arith, e, here.whole, newest-whole)) in
      let others : (f : Range) → IsIn f free → f.start ≢ newest → word_at n (f.start + 24) ≡ word_at m (f.start + 24) = λ f i other.
      let here = list.placed f i in
      word_at-front (f.start + 24) (omega (arith, here.whole)) (omega (arith, here.lies_in)) (λ e. omega (arith, e, here.whole, block-whole))
      (λ e. starts-behind f i (omega (arith, e))) (λ s e. other (omega (arith, e))) in
      let hung = Links-hung m n 0 block free newest list.placed apart-behind word_at-front_back nexts others list.links in
      let linked : Links n block free (word_at n (block + 16)) = subst (λ w. Links n block free w) (sym word_at-front_next) hung in
      (sym place, ap (λ a. word_at n (a + 24)) place ∙ word_at-front_previous, subst (λ a. Links n a free (word_at n (a + 16))) (sym place) linked)

  -- and nothing but links was written
  pub Rewrites-front : Rewrites m n (IsLink (r ∷ free))
  Rewrites-front =
      let own : IsLink (r ∷ free) (at + 24) = elim (cases_eq newest 0) [
        | inl none ↦ (r, inl refl, inr (ap (λ b. b + 24) (fronts.own.none none ∙ sym place)))
        | inr some ↦ let first = first_of m 0 free newest list.links some in (first.0, inr first.1, inr (ap (λ b. b + 24) (fronts.own.some some ∙ first.2)))
      ] in
      Rewrites-weaken
      (λ a h. elim h [
        | inl (inl e) ↦ (r, inl refl, inl (e.1 ∙ ap (λ b. b + 16) (sym place)))
        | inl (inr e) ↦ subst (IsLink (r ∷ free)) (sym e.1) own
        | inr e ↦ (r, inl refl, inr (e.1 ∙ ap (λ b. b + 24) (sym place)))
      ])
      (Rewrites-trans (Rewrites-trans fronts.next.rewrites fronts.back.rewrites) fronts.previous.rewrites)
