-- What the links of a list of blocks say of each of them, and which words they rest on.
use Rattle.std.proofs.Common.{◌≡◌, ◌≢◌, ℕ, ◌+◌, ◌%◌, ◌<◌, ◌≤◌, ◌⊎◌, Bool, cond, filter, find, List, [], ◌∷◌, ◌++◌, Some, arith, inl}
use Rattle.std.proofs.Common.{inr, refl, sym, ◌∙◌, ap, subst}
use Rattle.rlsf_base.specs.declared.memory.range.Range.{Range}
use Rattle.rlsf_base.specs.Space.{Space, word_at}
use Rattle.rlsf_table.specs.FreeList.{Links}
use Rattle.rlsf_table.specs.Rewrites.{CanBeBlock, Rewrites}
use Rattle.rlsf_model.specs.Lists.{IsIn, without}
use Rattle.rlsf_model.specs.WellFormed.{coverage, covers, itself}
use Rattle.rlsf_model.proofs.Coverage.{by_test, covers-inside, coverage-append, coverage-IsIn, coverage-unique, IsIn-append, IsIn-append_left, IsIn-append_right}

-- ---- blocks that begin at different addresses

-- the addresses of blocks of two parts of a list whose ranges don't overlap
pub starts_differ : (xs ys : List Range) (f g : Range) → ((a : ℕ) → coverage itself (xs ++ ys) a ≤ 1) → IsIn f xs → IsIn g ys → 0 < f.len → 0 < g.len
    → f.start ≢ g.start
starts_differ xs ys f g apart i j some_f some_g same =
    let one : covers f f.start ≡ 1 = covers-inside f f.start (omega arith) (omega arith) in
    let two : covers g f.start ≡ 1 = covers-inside g f.start (omega arith) (omega arith) in
    let left = coverage-IsIn itself f xs f.start i in
    let right = coverage-IsIn itself g ys f.start j in
    let sum = coverage-append itself xs ys f.start in
    let most = apart f.start in
    absurd (omega arith)

-- two ranges of a list that begin at one address are one
pub starts_apart : (xs : List Range) (f g : Range) → ((a : ℕ) → coverage itself xs a ≤ 1) → IsIn f xs → IsIn g xs → 0 < f.len → 0 < g.len → f.start ≡ g.start
    → f ≡ g
starts_apart xs f g apart i j some_f some_g same =
    coverage-unique itself f g xs f.start (apart f.start) i j (covers-inside f f.start (omega arith) (omega arith)) (covers-inside g f.start (omega arith) (omega arith))

-- ---- links

-- the first block of a list that isn't empty
pub first_of : (m : Space) (p : ℕ) (free : List Range) (head : ℕ) → Links m p free head → head ≢ 0 → (f : Range) × IsIn f free × (head ≡ f.start)
first_of m p [] head links some = absurd (some links)
first_of m p (f ∷ fs) head links some = (f, inl refl, links.0)

-- the links of a list are those of another memory with the same words there
pub Links-same : (m n : Space) (p : ℕ) (free : List Range) (head : ℕ)
    → ((f : Range) → IsIn f free → (word_at n (f.start + 16) ≡ word_at m (f.start + 16)) × (word_at n (f.start + 24) ≡ word_at m (f.start + 24)))
    → Links m p free head → Links n p free head
Links-same m n p [] head same links = links
Links-same m n p (f ∷ fs) head same links =
    let here = same f (inl refl) in
    let later = Links-same m n f.start fs (word_at m (f.start + 16)) (λ g i. same g (inr i)) links.2 in
    (links.0, here.1 ∙ links.1, subst (λ w. Links n f.start fs w) (sym here.0) later)

-- words that are no links of a list were written
pub Links-Rewrites : {m n : Space} {at : ℕ → Type 0} (p : ℕ) (free : List Range) (head : ℕ) → Rewrites m n at → ((f : Range) → IsIn f free → CanBeBlock m f)
    → ((f : Range) → IsIn f free → ¬ at (f.start + 16) × ¬ at (f.start + 24)) → Links m p free head → Links n p free head
Links-Rewrites {m} {n} p free head h placed other links = grind (arith, Links-same)

-- a list is hung behind another block: the word that names the block before its first one is another one
pub Links-hung : (m n : Space) (p q : ℕ) (free : List Range) (head : ℕ) → ((f : Range) → IsIn f free → CanBeBlock m f) → ((a : ℕ) → coverage itself free a ≤ 1)
    → (head ≢ 0 → word_at n (head + 24) ≡ q)
    → ((f : Range) → IsIn f free → word_at n (f.start + 16) ≡ word_at m (f.start + 16))
    → ((f : Range) → IsIn f free → f.start ≢ head → word_at n (f.start + 24) ≡ word_at m (f.start + 24))
    → Links m p free head → Links n q free head
Links-hung m n p q [] head placed apart first nexts others links = links
Links-hung m n p q (f ∷ fs) head placed apart first nexts others links =
    let here = placed f (inl refl) in
    let some : head ≢ 0 = λ none. omega (arith, links.0, here.some) in
    let differ : (g : Range) → IsIn g fs → g.start ≢ head =
    λ g i same. starts_differ (f ∷ []) fs f g apart (inl refl) i (omega (arith, here.room)) (omega (arith, (placed g (inr i)).room)) (sym (same ∙ links.0)) in
    let later = Links-same m n f.start fs (word_at m (f.start + 16)) (λ g i. (nexts g (inr i), others g (inr i) (differ g i))) links.2 in
    (links.0, ap (λ a. word_at n (a + 24)) (sym links.0) ∙ first some, subst (λ w. Links n f.start fs w) (sym (nexts f (inl refl))) later)

-- where a list of blocks begins, or 0, is a multiple of 32
pub head-whole : (m : Space) (p : ℕ) (free : List Range) (head : ℕ) → ((f : Range) → IsIn f free → CanBeBlock m f) → Links m p free head → head % 32 ≡ 0
head-whole m p [] head placed links = omega (arith, links)
head-whole m p (f ∷ fs) head placed links = ap (λ a. a % 32) links.0 ∙ (placed f (inl refl)).whole

-- ---- a block in the middle of a list

-- an element is between the ones before it and the ones behind it
pub IsIn-split : {A : Type 0} (x : A) (xs : List A) → IsIn x xs → (before : List A) × (after : List A) × (xs ≡ before ++ (x ∷ after))
IsIn-split x [] i = absurd i
IsIn-split x (y ∷ ys) (inl e) = ([], ys, ap (λ z. z ∷ ys) (sym e))
IsIn-split x (y ∷ ys) (inr i) = let rest = IsIn-split x ys i in (y ∷ rest.0, rest.1, ap (λ l. y ∷ l) rest.2)

-- the ranges except for one are ranges of the list
pub IsIn-removal : (before : List Range) (r : Range) (after : List Range) (f : Range) → IsIn f (before ++ after) → IsIn f (before ++ (r ∷ after))
IsIn-removal before r after f i = elim (IsIn-append f before after i) [
  | inl j ↦ IsIn-append_left f before (r ∷ after) j
  | inr j ↦ IsIn-append_right f before (r ∷ after) (inr j)
]

-- the range that was found is taken out at its place, and none before it passes the test
pub find-split : {A : Type 0} (p : A → Bool) (x : A) (xs : List A) → find p xs ≡ Some x
    → (before : List A) × (after : List A) × (xs ≡ before ++ (x ∷ after)) × (without p xs ≡ before ++ after) × (filter p before ≡ [])
find-split p x [] h = absurd (cc)
find-split p x (y ∷ ys) h = by_test (p y)
    (λ e. let same : Some y ≡ Some x = sym (ap (λ b. cond b (Some y) (find p ys)) e) ∙ h in let is : y ≡ x = cc in
    ([], ys, ap (λ z. z ∷ ys) is, ap (λ b. cond b ys (y ∷ without p ys)) e, refl))
    (λ e. let rest = find-split p x ys (sym (ap (λ b. cond b (Some y) (find p ys)) e) ∙ h) in (
      y ∷ rest.0,
      rest.1,
      ap (λ l. y ∷ l) rest.2,
      ap (λ b. cond b ys (y ∷ without p ys)) e ∙ ap (λ l. y ∷ l) rest.3,
      ap (λ b. cond b (y ∷ filter p rest.0) (filter p rest.0)) e ∙ rest.4,
    ))

-- the blocks behind one are linked from it on
pub Links-behind : (m : Space) (p : ℕ) (before : List Range) (r : Range) (after : List Range) (head : ℕ) → Links m p (before ++ (r ∷ after)) head
    → Links m r.start after (word_at m (r.start + 16))
Links-behind m p [] r after head links = links.2
Links-behind m p (b ∷ bs) r after head links = Links-behind m b.start bs r after (word_at m (b.start + 16)) links.2

-- a block with others before it names one of them
pub previous_in : (m : Space) (p : ℕ) (b : Range) (bs : List Range) (r : Range) (after : List Range) (head : ℕ) → Links m p ((b ∷ bs) ++ (r ∷ after)) head
    → (f : Range) × IsIn f (b ∷ bs) × (word_at m (r.start + 24) ≡ f.start)
previous_in m p b [] r after head links = (b, inl refl, links.2.1)
previous_in m p b (c ∷ cs) r after head links =
    let rest = previous_in m b.start c cs r after (word_at m (b.start + 16)) links.2 in
    (rest.0, inr rest.1, rest.2)

-- a block names one of those before it, or what the list's first block names
pub previous_of : (m : Space) (p : ℕ) (before : List Range) (r : Range) (after : List Range) (head : ℕ) → Links m p (before ++ (r ∷ after)) head
    → (word_at m (r.start + 24) ≡ p) ⊎ ((f : Range) × IsIn f before × (word_at m (r.start + 24) ≡ f.start))
previous_of m p [] r after head links = inl links.1
previous_of m p (b ∷ bs) r after head links = inr (previous_in m p b bs r after head links)
