-- A block taken out of the list.
use Rattle.std.proofs.Common.{◌≡◌, ◌≢◌, ℕ, ◌+◌, ◌%◌, ◌^◌, ◌<◌, ◌≤◌, ◌⊎◌, List, [], ◌∷◌, ◌++◌, arith, inl, inr, refl, sym}
use Rattle.std.proofs.Common.{◌∙◌, ap, subst}
use Rattle.rlsf_base.specs.declared.memory.range.Range.{Range}
use Rattle.rlsf_base.specs.Space.{Space, word_at, with_word, word_range}
use Rattle.rlsf_base.specs.OpenSpace.{out_with}
use Rattle.rlsf_base.proofs.Lending.Present.{own-same}
use Rattle.rlsf_table.specs.Steps.ClassList.{IsFreeList}
use Rattle.rlsf_table.specs.FreeList.{Links}
use Rattle.rlsf_table.specs.Rewrites.{IsLink, CanBeBlock, Rewrites}
use Rattle.rlsf_model.specs.Lists.{IsIn}
use Rattle.rlsf_model.specs.WellFormed.{coverage, itself}
use Rattle.rlsf_model.proofs.Coverage.{coverage-append, IsIn-append_left, IsIn-append_right}
use Rattle.rlsf_table.proofs.Words.Writes.{IsWritable-at, Rewrites-trans, Rewrites-weaken, Writes, Writes-some}
use Rattle.rlsf_table.proofs.FreeLists.Chains.{first_of, head-whole, IsIn-split, Links-behind, Links-hung, previous_in, previous_of, starts_differ}

-- a list from which the block r is cut out: the block before it names the next one
pub Links-cut : (m n : Space) (p : ℕ) (b : Range) (bs : List Range) (r : Range) (after : List Range) (head next previous : ℕ) → previous ≡ word_at m (r.start + 24)
    → ((f : Range) → IsIn f (b ∷ bs) → 0 < f.len) → ((a : ℕ) → coverage itself (b ∷ bs) a ≤ 1)
    → ((f : Range) → IsIn f (b ∷ bs) → word_at n (f.start + 24) ≡ word_at m (f.start + 24))
    → ((f : Range) → IsIn f (b ∷ bs) → f.start ≢ previous → word_at n (f.start + 16) ≡ word_at m (f.start + 16))
    → word_at n (previous + 16) ≡ next
    → Links n previous after next
    → Links m p ((b ∷ bs) ++ (r ∷ after)) head → Links n p ((b ∷ bs) ++ after) head
Links-cut m n p b [] r after head next previous is some apart backs nexts last tail links = grind arith
Links-cut m n p b (c ∷ cs) r after head next previous is some apart backs nexts last tail links =
    let found = previous_in m b.start c cs r after (word_at m (b.start + 16)) links.2 in
    let other : b.start ≢ previous =
    λ same. starts_differ (b ∷ []) (c ∷ cs) b found.0 apart (inl refl) found.1 (some b (inl refl)) (some found.0 (inr found.1)) (same ∙ is ∙ found.2) in
    let later = Links-cut m n b.start c cs r after (word_at m (b.start + 16)) next previous is (λ f i. some f (inr i)) (λ a. omega (arith, apart a))
    (λ f i. backs f (inr i)) (λ f i. nexts f (inr i)) last tail links.2 in
    (links.0, backs b (inl refl) ∙ links.1, subst (λ w. Links n b.start ((c ∷ cs) ++ after) w) (sym (nexts b (inl refl) other)) later)

-- and where it begins then
pub Links-joined : (m n : Space) (before : List Range) (r : Range) (after : List Range) (head next previous result : ℕ) → previous ≡ word_at m (r.start + 24)
    → (previous ≡ 0 → result ≡ next) → (previous ≢ 0 → result ≡ head)
    → ((f : Range) → IsIn f before → (0 < f.start) × (0 < f.len)) → ((a : ℕ) → coverage itself before a ≤ 1)
    → ((f : Range) → IsIn f before → word_at n (f.start + 24) ≡ word_at m (f.start + 24))
    → ((f : Range) → IsIn f before → f.start ≢ previous → word_at n (f.start + 16) ≡ word_at m (f.start + 16))
    → (previous ≢ 0 → word_at n (previous + 16) ≡ next)
    → Links n previous after next
    → Links m 0 (before ++ (r ∷ after)) head → Links n 0 (before ++ after) result
Links-joined m n [] r after head next previous result is first later some apart backs nexts last tail links = grind arith
Links-joined m n (b ∷ bs) r after head next previous result is first later some apart backs nexts last tail links =
    let found = previous_in m 0 b bs r after head links in
    let here : previous ≡ found.0.start = is ∙ found.2 in
    let named : previous ≢ 0 = λ none. omega (arith, here, (some found.0 found.1).0) in
    let cut = Links-cut m n 0 b bs r after head next previous is (λ f i. (some f i).1) apart backs nexts (last named) tail links in
    subst (λ w. Links n 0 ((b ∷ bs) ++ after) w) (sym (later named)) cut

-- the two writes that take a block out which names the blocks `next` and `previous`
pub record Cuts (m n : Space) (next previous : ℕ) : Type 0 where
  pub one : Space
  pub back : Writes m one (next ≢ 0) (next + 24) previous
  pub forth : Writes one n (previous ≢ 0) (previous + 16) next

module _ (m n : Space) (newest block next previous : ℕ) (r : Range) (before after : List Range) (place : r.start ≡ block) (list : IsFreeList m newest (before ++ (r ∷ after)))
    (is_next : next ≡ word_at m (block + 16)) (is_previous : previous ≡ word_at m (block + 24)) (cuts : Cuts m n next previous) where
  next-is : next ≡ word_at m (r.start + 16)
  next-is = is_next ∙ ap (λ a. word_at m (a + 16)) (sym place)

  previous-is : previous ≡ word_at m (r.start + 24)
  previous-is = is_previous ∙ ap (λ a. word_at m (a + 24)) (sym place)

  -- the blocks before the one that is taken out, and those behind it
  in_before : (f : Range) → IsIn f before → IsIn f (before ++ (r ∷ after))
  in_before f i = IsIn-append_left f before (r ∷ after) i

  in_after : (f : Range) → IsIn f after → IsIn f (before ++ (r ∷ after))
  in_after f i = IsIn-append_right f before (r ∷ after) (inr i)

  placed-after : (f : Range) → IsIn f after → CanBeBlock m f
  placed-after f i = list.placed f (in_after f i)

  apart-parts : (a : ℕ) → (coverage itself before a ≤ 1) × (coverage itself after a ≤ 1)
  apart-parts a =
      let parts = coverage-append itself before (r ∷ after) a in
      (omega (arith, list.apart a), omega (arith, list.apart a))

  -- the words at the block name the next one and the one before it
  behind : Links m r.start after next
  behind = subst (λ w. Links m r.start after w) (sym next-is) (Links-behind m 0 before r after newest list.links)

  next-of : next ≢ 0 → (f : Range) × IsIn f after × (next ≡ f.start)
  next-of some = first_of m r.start after next behind some

  previous-of : (previous ≡ 0) ⊎ ((f : Range) × IsIn f before × (previous ≡ f.start))
  previous-of = elim (previous_of m 0 before r after newest list.links) [ inl none ↦ inl (previous-is ∙ none) | inr w ↦ inr (w.0, w.1, previous-is ∙ w.2) ]

  next-whole : next % 32 ≡ 0
  next-whole = head-whole m r.start after next placed-after behind

  previous-whole : previous % 32 ≡ 0
  previous-whole = elim previous-of [ inl none ↦ ap (λ a. a % 32) none | inr w ↦ ap (λ a. a % 32) w.2 ∙ (list.placed w.0 (in_before w.0 w.1)).whole ]

  -- a block before the block is none behind it
  before-after : (f g : Range) → IsIn f before → IsIn g after → f.start ≢ g.start
  before-after f g i j =
      starts_differ before (r ∷ after) f g list.apart i (inr j) (omega (arith, (list.placed f (in_before f i)).room)) (omega (arith, (placed-after g j).room))

  -- the words that are no such links are as they were
  nexts-kept : (f : Range) → IsIn f (before ++ (r ∷ after)) → f.start ≢ previous → word_at n (f.start + 16) ≡ word_at m (f.start + 16)
  nexts-kept f i other =
      let here = list.placed f i in
      cuts.forth.rewrites.words (f.start + 16) (omega (arith, here.whole)) (omega (arith, here.lies_in, cuts.back.rewrites.start)) (λ h. other (omega (arith, h.1)))
      ∙ cuts.back.rewrites.words (f.start + 16) (omega (arith, here.whole)) (omega (arith, here.lies_in)) (λ h. omega (arith, h.1, here.whole, next-whole))

  backs-kept : (f : Range) → IsIn f (before ++ (r ∷ after)) → f.start ≢ next → word_at n (f.start + 24) ≡ word_at m (f.start + 24)
  backs-kept f i other =
      let here = list.placed f i in
      let one = cuts.back.rewrites in
      cuts.forth.rewrites.words (f.start + 24) (omega (arith, here.whole)) (omega (arith, here.lies_in, one.start)) (λ h. omega (arith, h.1, here.whole, previous-whole))
      ∙ one.words (f.start + 24) (omega (arith, here.whole)) (omega (arith, here.lies_in)) (λ h. other (omega (arith, h.1)))

  back-written : next ≢ 0 → word_at n (next + 24) ≡ previous
  back-written some = grind (arith, next-of, next-whole, placed-after, previous-whole)

  hung-after : Links n previous after next
  hung-after =
      let other : (f : Range) → IsIn f after → f.start ≢ previous = λ f i same. elim previous-of [
        | inl none ↦ omega (arith, same, none, (placed-after f i).some)
        | inr w ↦ before-after w.0 f w.1 i (sym (same ∙ w.2))
      ] in
      Links-hung m n r.start previous after next placed-after (λ a. (apart-parts a).1) back-written (λ f i. nexts-kept f (in_after f i) (other f i))
      (λ f i. backs-kept f (in_after f i)) behind

  -- the list is joined where the block was
  pub Links-out : (result : ℕ) → (previous ≡ 0 → result ≡ next) → (previous ≢ 0 → result ≡ newest) → Links n 0 (before ++ after) result
  Links-out result first later =
      let other : (f : Range) → IsIn f before → f.start ≢ next = λ f i same.
      let g = next-of (λ none. omega (arith, same, none, (list.placed f (in_before f i)).some)) in
      before-after f g.0 i g.1 (same ∙ g.2) in
      Links-joined m n before r after newest next previous result previous-is first later
      (λ f i. let here = list.placed f (in_before f i) in (here.some, omega (arith, here.room))) (λ a. (apart-parts a).0)
      (λ f i. backs-kept f (in_before f i) (other f i)) (λ f i. nexts-kept f (in_before f i)) cuts.forth.reads hung-after list.links

  -- and nothing but links was written
  pub Rewrites-out : Rewrites m n (IsLink (before ++ (r ∷ after)))
  Rewrites-out =
      Rewrites-weaken
      (λ a h. elim h [
        | inl e ↦ let f = next-of e.0 in (f.0, in_after f.0 f.1, inr (e.1 ∙ ap (λ b. b + 24) f.2))
        | inr e ↦ elim previous-of [ inl none ↦ absurd (e.0 none) | inr w ↦ (w.0, in_before w.0 w.1, inl (e.1 ∙ ap (λ b. b + 16) w.2)) ]
      ])
      (Rewrites-trans cuts.back.rewrites cuts.forth.rewrites)

-- the blocks that a block of the list names are placed: the next one, and the one before it
module _ {m : Space} {newest block : ℕ} {free : List Range} (r : Range) (place : r.start ≡ block) (i : IsIn r free) (list : IsFreeList m newest free) where
  pub next_placed : {next : ℕ} → next ≡ word_at m (block + 16) → next ≢ 0 → (f : Range) × (f.start ≡ next) × CanBeBlock m f
  next_placed {next} is some =
      let parts = IsIn-split r free i in
      let links : Links m 0 (parts.0 ++ (r ∷ parts.1)) newest = subst (λ l. Links m 0 l newest) parts.2 list.links in
      let here : next ≡ word_at m (r.start + 16) = is ∙ ap (λ a. word_at m (a + 16)) (sym place) in
      let behind : Links m r.start parts.1 next = subst (λ w. Links m r.start parts.1 w) (sym here) (Links-behind m 0 parts.0 r parts.1 newest links) in
      let found = first_of m r.start parts.1 next behind some in
      (found.0, sym found.2, list.placed found.0 (subst (λ l. IsIn found.0 l) (sym parts.2) (IsIn-append_right found.0 parts.0 (r ∷ parts.1) (inr found.1))))

  pub previous_placed : {previous : ℕ} → previous ≡ word_at m (block + 24) → previous ≢ 0 → (f : Range) × (f.start ≡ previous) × CanBeBlock m f
  previous_placed {previous} is some =
      let parts = IsIn-split r free i in
      let links : Links m 0 (parts.0 ++ (r ∷ parts.1)) newest = subst (λ l. Links m 0 l newest) parts.2 list.links in
      let here : previous ≡ word_at m (r.start + 24) = is ∙ ap (λ a. word_at m (a + 24)) (sym place) in
      elim (previous_of m 0 parts.0 r parts.1 newest links) [
        | inl none ↦ absurd (some (here ∙ none))
        | inr w ↦ (w.0, sym (here ∙ w.2), list.placed w.0 (subst (λ l. IsIn w.0 l) (sym parts.2) (IsIn-append_left w.0 parts.0 (r ∷ parts.1) w.1)))
      ]

  -- the write of the next one's word
  pub Writes-back : (n o : Space) {next previous : ℕ} → next ≡ word_at m (block + 16) → next ≢ 0 → previous < 2 ^ 64 → n ≡ o → o.start ≡ m.start
      → o.bytes ≡ with_word m (next + 24) previous → o.out ≡ out_with m (word_range (next + 24))
      → Writes m n (next ≢ 0) (next + 24) previous
  Writes-back n o {next} {previous} is some fits same start bytes out =
      let found = next_placed is some in
      subst (λ x. Writes m x (next ≢ 0) (next + 24) previous) (sym same)
      (Writes-some (next ≢ 0) some (IsWritable-at 24 (omega arith) refl found.1 found.2 m refl refl (own-same m m refl refl)) fits start bytes out)

  -- the write of the word of the one before it, after that
  pub Writes-forth : (n o : Space) {next previous : ℕ} → previous ≡ word_at m (block + 24) → previous ≢ 0 → next < 2 ^ 64
      → Writes m n (next ≢ 0) (next + 24) previous → o.start ≡ n.start → o.bytes ≡ with_word n (previous + 16) next
      → o.out ≡ out_with n (word_range (previous + 16))
      → Writes n o (previous ≢ 0) (previous + 16) next
  Writes-forth n o {next} {previous} is some fits back start bytes out =
      let found = previous_placed is some in
      Writes-some (previous ≢ 0) some (IsWritable-at 16 (omega arith) refl found.1 found.2 n back.rewrites.start back.rewrites.length back.rewrites.own) fits start bytes out
