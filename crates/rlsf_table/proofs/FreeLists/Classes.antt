-- The free blocks of one class, among all free blocks.
use Rattle.std.proofs.Common.{◌≡◌, ℕ, ◌≤◌, Bool, true, false, cond, filter, List, [], ◌∷◌, ◌++◌, arith, sym, ◌∙◌, ap}
use Rattle.std.proofs.lemmas.List.Elements.{filter-append}
use Rattle.rlsf_base.specs.declared.memory.range.Range.{Range}
use Rattle.rlsf_model_sizes.specs.SizeClass.{class_at}
use Rattle.rlsf_model.specs.Allocate.{has_class}
use Rattle.rlsf_model.specs.Lists.{IsIn}
use Rattle.rlsf_model.specs.WellFormed.{coverage, itself}
use Rattle.rlsf_model.proofs.Coverage.{by_test, IsIn-filter, IsIn-filter_from}
use Rattle.rlsf_table.specs.Table.{of_class}

-- ---- what a filter keeps

filter-yes : {A : Type 0} (p : A → Bool) (x : A) (xs : List A) → p x ≡ true → filter p (x ∷ xs) ≡ x ∷ filter p xs
filter-yes p x xs e = ap (λ b. cond b (x ∷ filter p xs) (filter p xs)) e

filter-no : {A : Type 0} (p : A → Bool) (x : A) (xs : List A) → p x ≡ false → filter p (x ∷ xs) ≡ filter p xs
filter-no p x xs e = ap (λ b. cond b (x ∷ filter p xs) (filter p xs)) e

-- it has no address more than the list
coverage-filter : (p : Range → Bool) (xs : List Range) (a : ℕ) → coverage itself (filter p xs) a ≤ coverage itself xs a
coverage-filter p [] a = omega arith
coverage-filter p (x ∷ xs) a = by_test (p x)
    (λ e. omega (arith, ap (λ l. coverage itself l a) (filter-yes p x xs e), coverage-filter p xs a))
    (λ e. omega (arith, ap (λ l. coverage itself l a) (filter-no p x xs e), coverage-filter p xs a))

-- ---- the ranges of a class

module _ (sllen fl sl : ℕ) where
  pub IsIn-of_class : (f : Range) (free : List Range) → IsIn f (of_class sllen fl sl free) → IsIn f free × (has_class sllen (class_at fl sl) f ≡ true)
  IsIn-of_class f free i = IsIn-filter (has_class sllen (class_at fl sl)) f free i

  pub IsIn-of_class_from : (f : Range) (free : List Range) → IsIn f free → has_class sllen (class_at fl sl) f ≡ true → IsIn f (of_class sllen fl sl free)
  IsIn-of_class_from f free i has = IsIn-filter_from (has_class sllen (class_at fl sl)) f free i has

  pub coverage-of_class : (free : List Range) (a : ℕ) → coverage itself (of_class sllen fl sl free) a ≤ coverage itself free a
  coverage-of_class free a = coverage-filter (has_class sllen (class_at fl sl)) free a

  -- a range in front, of that class or of another one
  pub of_class-front_same : (r : Range) (free : List Range) → has_class sllen (class_at fl sl) r ≡ true
      → of_class sllen fl sl (r ∷ free) ≡ r ∷ of_class sllen fl sl free
  of_class-front_same r free e = filter-yes (has_class sllen (class_at fl sl)) r free e

  pub of_class-front_other : (r : Range) (free : List Range) → has_class sllen (class_at fl sl) r ≡ false → of_class sllen fl sl (r ∷ free) ≡ of_class sllen fl sl free
  of_class-front_other r free e = filter-no (has_class sllen (class_at fl sl)) r free e

  pub of_class-append : (before after : List Range) → of_class sllen fl sl (before ++ after) ≡ of_class sllen fl sl before ++ of_class sllen fl sl after
  of_class-append before after = filter-append (has_class sllen (class_at fl sl)) before after

  -- a range in the midst of the list, of that class or of another one
  pub of_class-amid_same : (before : List Range) (r : Range) (after : List Range) → has_class sllen (class_at fl sl) r ≡ true
      → of_class sllen fl sl (before ++ (r ∷ after)) ≡ of_class sllen fl sl before ++ (r ∷ of_class sllen fl sl after)
  of_class-amid_same before r after e = of_class-append before (r ∷ after) ∙ ap (λ l. of_class sllen fl sl before ++ l) (of_class-front_same r after e)

  pub of_class-amid_other : (before : List Range) (r : Range) (after : List Range) → has_class sllen (class_at fl sl) r ≡ false
      → of_class sllen fl sl (before ++ (r ∷ after)) ≡ of_class sllen fl sl (before ++ after)
  of_class-amid_other before r after e =
      of_class-append before (r ∷ after) ∙ ap (λ l. of_class sllen fl sl before ++ l) (of_class-front_other r after e) ∙ sym (of_class-append before after)
