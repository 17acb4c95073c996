-- Whether some range of a list passes a test.
use Rattle.std.proofs.Common.{◌≡◌, ◌⊎◌, Bool, true, false, cond, ◌||◌, true≢false, List, [], ◌∷◌, ◌++◌, Some, find, filter, refl, sym, ◌∙◌, ap}
use Rattle.std.proofs.Common.{subst, inl, inr}
use Rattle.std.specs.List.{list_any}
use Rattle.rlsf_base.specs.declared.memory.range.Range.{Range}
use Rattle.rlsf_model.specs.Lists.{IsIn}
use Rattle.rlsf_model.proofs.Coverage.{by_test, IsIn-append, IsIn-append_left, IsIn-append_right}
use Rattle.rlsf_table.proofs.FreeLists.Chains.{IsIn-removal}

module _ (p : Range → Bool) where
  -- a range that passes settles the test of the list
  pub list_any-true : (xs : List Range) (x : Range) → IsIn x xs → p x ≡ true → list_any p xs ≡ true
  list_any-true [] x i passes = absurd i
  list_any-true (y ∷ ys) x (inl same) passes = ap (λ b. b || list_any p ys) (subst (λ z. p z ≡ true) same passes)
  list_any-true (y ∷ ys) x (inr i) passes = by_test (p y)
      (λ e. ap (λ b. b || list_any p ys) e)
      (λ e. ap (λ b. b || list_any p ys) e ∙ list_any-true ys x i passes)

  -- where the test of a list is true, some range passes
  pub list_any-some : (xs : List Range) → list_any p xs ≡ true → (x : Range) × IsIn x xs × (p x ≡ true)
  list_any-some [] h = absurd (true≢false (sym h))
  list_any-some (y ∷ ys) h = by_test (p y)
      (λ e. (y, inl refl, e))
      (λ e. let (x, i, passes) = list_any-some ys (sym (ap (λ b. b || list_any p ys) e) ∙ h) in (x, inr i, passes))

  -- where each range fails, the test of the list is false
  pub list_any-false : (xs : List Range) → ((x : Range) → IsIn x xs → p x ≡ false) → list_any p xs ≡ false
  list_any-false [] fails = refl
  list_any-false (y ∷ ys) fails = ap (λ b. b || list_any p ys) (fails y (inl refl)) ∙ list_any-false ys (λ x i. fails x (inr i))

  -- a range that fails makes no difference to the test of the list
  pub list_any-less_one : (before : List Range) (r : Range) (after : List Range) → p r ≡ false → list_any p (before ++ r ∷ after) ≡ list_any p (before ++ after)
  list_any-less_one [] r after fails = ap (λ b. b || list_any p after) fails
  list_any-less_one (y ∷ ys) r after fails = ap (λ b. p y || b) (list_any-less_one ys r after fails)

  -- where the test of a list is false, no range is left of it
  pub filter-none : (xs : List Range) → list_any p xs ≡ false → filter p xs ≡ []
  filter-none [] h = refl
  filter-none (y ∷ ys) h = by_test (p y)
      (λ e. absurd (true≢false (sym (ap (λ b. b || list_any p ys) e) ∙ h)))
      (λ e. ap (λ b. cond b (y ∷ filter p ys) (filter p ys)) e ∙ filter-none ys (sym (ap (λ b. b || list_any p ys) e) ∙ h))

  -- where no range is left, the test of the list is false
  pub list_any-filtered : (xs : List Range) → filter p xs ≡ [] → list_any p xs ≡ false
  list_any-filtered [] h = refl
  list_any-filtered (y ∷ ys) h = by_test (p y)
      (λ e. let bad : y ∷ filter p ys ≡ [] = sym (ap (λ b. cond b (y ∷ filter p ys) (filter p ys)) e) ∙ h in absurd (cc))
      (λ e. ap (λ b. b || list_any p ys) e ∙ list_any-filtered ys (sym (ap (λ b. cond b (y ∷ filter p ys) (filter p ys)) e) ∙ h))

  -- the first range that is left is the one that is found
  pub find-filtered : (xs : List Range) (f : Range) (fs : List Range) → filter p xs ≡ f ∷ fs → find p xs ≡ Some f
  find-filtered [] f fs h = absurd (cc)
  find-filtered (y ∷ ys) f fs h = by_test (p y)
      (λ e. let first : y ∷ filter p ys ≡ f ∷ fs = sym (ap (λ b. cond b (y ∷ filter p ys) (filter p ys)) e) ∙ h in let same : y ≡ f = cc in
      ap (λ b. cond b (Some y) (find p ys)) e ∙ ap (λ x. Some x) same)
      (λ e. ap (λ b. cond b (Some y) (find p ys)) e ∙ find-filtered ys f fs (sym (ap (λ b. cond b (y ∷ filter p ys) (filter p ys)) e) ∙ h))

-- ---- a range in the midst of others

-- two Bools of which each is true where the other is
pub same_truth : (a b : Bool) → (a ≡ true → b ≡ true) → (b ≡ true → a ≡ true) → a ≡ b
same_truth true b to from = sym (to refl)
same_truth false true to from = from refl
same_truth false false to from = refl

-- an element in the midst of a list is that one, or one of the others
IsIn-amid : (before : List Range) (r : Range) (after : List Range) (f : Range) → IsIn f (before ++ (r ∷ after)) → (f ≡ r) ⊎ IsIn f (before ++ after)
IsIn-amid before r after f i = elim (IsIn-append f before (r ∷ after) i) [
  | inl j ↦ inr (IsIn-append_left f before after j)
  | inr (inl same) ↦ inl same
  | inr (inr j) ↦ inr (IsIn-append_right f before after j)
]

-- a test that one of the others passes as the element does
pub list_any-amid : (p : Range → Bool) (before : List Range) (r : Range) (after : List Range) (g : Range) → IsIn g (before ++ after) → p g ≡ p r
    → list_any p (before ++ (r ∷ after)) ≡ list_any p (before ++ after)
list_any-amid p before r after g i same = same_truth _ _
    (λ h. let found = list_any-some p (before ++ (r ∷ after)) h in
    elim (IsIn-amid before r after found.0 found.1) [
      | inl is ↦ list_any-true p (before ++ after) g i (same ∙ ap p (sym is) ∙ found.2)
      | inr j ↦ list_any-true p (before ++ after) found.0 j found.2
    ])
    (λ h. let found = list_any-some p (before ++ after) h in list_any-true p (before ++ (r ∷ after)) found.0 (IsIn-removal before r after found.0 found.1) found.2)
