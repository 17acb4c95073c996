-- Lists of ranges without those that lie in a range.
use Rattle.std.proofs.Common.{◌≡◌, ℕ, ◌+◌, ◌<◌, ◌≤◌, ◌||◌, Bool, true, false, true≢false, not, cond, List, [], ◌∷◌, ◌++◌, Some, find, length}
use Rattle.std.proofs.Common.{arith, inl, inr, refl, sym, ◌∙◌, ap}
use Rattle.std.proofs.lemmas.Bool.{cases_lt, or_cases, or_left, or_right}
use Rattle.std.specs.Cmp.{both_ways}
use Rattle.rlsf_model.proofs.Parts.{length-filter_le}
use Rattle.std.proofs.lemmas.List.Elements.{filter-append}
use Rattle.rlsf_base.specs.declared.memory.range.Range.{Range}
use Rattle.rlsf_base.specs.Range.{end_of}
use Rattle.rlsf_model.specs.Lists.{IsIn, without}
use Rattle.rlsf_model.specs.Remove.{lies_within, outside_of}
use Rattle.rlsf_model.specs.State.{between}
use Rattle.rlsf_model.proofs.Coverage.{by_test}
use Rattle.rlsf_model.proofs.Removals.{lies_within-le, lies_within-true}
use Rattle.rlsf_table.proofs.FreeLists.Chains.{find-split}

-- where none lies in the range, all are left
pub outside_of-none : (r : Range) (xs : List Range) → ((x : Range) → IsIn x xs → lies_within r x ≡ false) → outside_of r xs ≡ xs
outside_of-none r [] none = refl
outside_of-none r (x ∷ xs) none =
    ap (λ b. cond (not b) (x ∷ outside_of r xs) (outside_of r xs)) (none x (inl refl)) ∙ ap (λ l. x ∷ l) (outside_of-none r xs (λ y i. none y (inr i)))

-- first those in one range go, and then those in another: so go those in both
pub outside_of-twice : (r q p : Range) (xs : List Range) → ((x : Range) → IsIn x xs → lies_within p x ≡ (lies_within r x || lies_within q x))
    → outside_of q (outside_of r xs) ≡ outside_of p xs
outside_of-twice r q p [] both = refl
outside_of-twice r q p (x ∷ xs) both =
    let rest = outside_of-twice r q p xs (λ y i. both y (inr i)) in
    by_test (lies_within r x)
    (λ e. ap (λ b. outside_of q (cond (not b) (x ∷ outside_of r xs) (outside_of r xs))) e ∙ rest
    ∙ sym (ap (λ b. cond (not b) (x ∷ outside_of p xs) (outside_of p xs)) (both x (inl refl) ∙ ap (λ b. b || lies_within q x) e)))
    (λ e. ap (λ b. outside_of q (cond (not b) (x ∷ outside_of r xs) (outside_of r xs))) e
    ∙ ap (λ l. cond (not (lies_within q x)) (x ∷ l) l) rest
    ∙ sym (ap (λ b. cond (not b) (x ∷ outside_of p xs) (outside_of p xs)) (both x (inl refl) ∙ ap (λ b. b || lies_within q x) e)))

-- the list without the one that a test finds is the list without those in a range, if that one alone lies there, once
pub outside_of-found : (r f : Range) (test : Range → Bool) (xs : List Range) → find test xs ≡ Some f → lies_within r f ≡ true
    → ((before after : List Range) → xs ≡ before ++ (f ∷ after) → (x : Range) → IsIn x (before ++ after) → lies_within r x ≡ false)
    → outside_of r xs ≡ without test xs
outside_of-found r f test xs found lies others =
    let (before, after, parts, left, ahead) = find-split test f xs found in
    ap (outside_of r) parts
    ∙ filter-append (λ x. not (lies_within r x)) before (f ∷ after)
    ∙ ap (λ b. outside_of r before ++ cond (not b) (f ∷ outside_of r after) (outside_of r after)) lies
    ∙ sym (filter-append (λ x. not (lies_within r x)) before after)
    ∙ outside_of-none r (before ++ after) (others before after parts)
    ∙ sym left

-- a range that doesn't lie on both sides of an address lies between two others if it lies on one side
pub lies_within-split : (first mid end : ℕ) (x : Range) → first ≤ mid → mid ≤ end → 0 < x.len → (x.start < mid → end_of x ≤ mid)
    → lies_within (between first end) x ≡ (lies_within (between first mid) x || lies_within (between mid end) x)
lies_within-split first mid end x from to some edge =
    let front = lies_within (between first mid) x in
    let back = lies_within (between mid end) x in
    both_ways (lies_within (between first end) x) (front || back)
    (λ lies.
    let ends = lies_within-true (between first end) x lies in
    elim (cases_lt x.start mid) [
      | inl before ↦ or_left front back (lies_within-le (between first mid) x (omega (arith, ends)) (omega (arith, edge before)))
      | inr behind ↦ or_right front back (lies_within-le (between mid end) x (omega (arith, behind)) (omega (arith, ends)))
    ])
    (λ lies. elim (or_cases front back lies) [
      | inl e ↦ lies_within-le (between first end) x (omega (arith, lies_within-true (between first mid) x e)) (omega (arith, lies_within-true (between first mid) x e))
      | inr e ↦ lies_within-le (between first end) x (omega (arith, lies_within-true (between mid end) x e)) (omega (arith, lies_within-true (between mid end) x e))
    ])

-- fewer are left than there were, if one lies there
pub length-outside_of_one : (r x : Range) (xs : List Range) → IsIn x xs → lies_within r x ≡ true → length (outside_of r xs) + 1 ≤ length xs
length-outside_of_one r x [] i lies = absurd i
length-outside_of_one r x (y ∷ ys) i lies =
    by_test (lies_within r y)
    (λ e. let same = ap (λ b. length (cond (not b) (y ∷ outside_of r ys) (outside_of r ys))) e in omega (arith, same, length-filter_le (λ z. not (lies_within r z)) ys))
    (λ e. elim i [
      | inl same ↦ absurd (true≢false (sym lies ∙ ap (lies_within r) same ∙ e))
      | inr j ↦ let same = ap (λ b. length (cond (not b) (y ∷ outside_of r ys) (outside_of r ys))) e in omega (arith, same, length-outside_of_one r x ys j lies)
    ])
