-- The links of one class were written: the lists of the other classes are as they were.
use Rattle.std.proofs.Common.{◌≡◌, ℕ, ◌+◌, ◌≤◌, List, arith, ap}
use Rattle.std.proofs.lemmas.Bool.{cases_eq}
use Rattle.rlsf_model_sizes.specs.SizeClass.{class_of, class_at}
use Rattle.rlsf_base.specs.declared.memory.range.Range.{Range}
use Rattle.rlsf_base.specs.Space.{Space}
use Rattle.rlsf_model.specs.Lists.{IsIn}
use Rattle.rlsf_model.specs.WellFormed.{coverage, itself}
use Rattle.rlsf_model.proofs.Choices.{has_class-true}
use Rattle.rlsf_table.specs.FreeList.{Links}
use Rattle.rlsf_table.specs.Rewrites.{IsLink, CanBeBlock, Rewrites}
use Rattle.rlsf_table.specs.Table.{of_class}
use Rattle.rlsf_table.proofs.FreeLists.Chains.{Links-Rewrites, starts_apart}
use Rattle.rlsf_table.proofs.FreeLists.Classes.{IsIn-of_class}

-- the indices of a class are its own
pub class_at-injective : (fl sl i j : ℕ) → class_at i j ≡ class_at fl sl → (i ≡ fl) × (j ≡ sl)
class_at-injective fl sl i j same =
    let exponent : 5 + i ≡ 5 + fl = ap (λ c. c.exponent) same in
    (omega arith, ap (λ c. c.division) same)

-- what is true of the class at two indices, and of every other one
pub each_class : (P : ℕ → ℕ → Type 0) (fl sl : ℕ) → P fl sl → ((i j : ℕ) → ¬ ((i ≡ fl) × (j ≡ sl)) → P i j) → (i j : ℕ) → P i j
each_class P fl sl here other i j = grind (arith, cases_eq)

-- `all` are placed blocks that don't overlap, of which those in `written` have the class at fl and sl
module _ {m n : Space} (sllen fl sl : ℕ) (all written : List Range) (placed : (f : Range) → IsIn f all → CanBeBlock m f) (apart : (a : ℕ) → coverage itself all a ≤ 1)
    (among : (f : Range) → IsIn f written → IsIn f all × (class_of sllen f.len ≡ class_at fl sl)) (rewrites : Rewrites m n (IsLink written)) where
  -- a block of another class has no link of theirs
  no_link : (i j : ℕ) → ¬ ((i ≡ fl) × (j ≡ sl)) → (f : Range) → IsIn f all → class_of sllen f.len ≡ class_at i j
      → ¬ IsLink written (f.start + 16) × ¬ IsLink written (f.start + 24)
  no_link i j other f in_all class = grind (arith, starts_apart, class_at-injective)

  -- the list of another class
  pub Links-other_class : (i j : ℕ) → ¬ ((i ≡ fl) × (j ≡ sl)) → (free : List Range) → ((f : Range) → IsIn f free → IsIn f all) → (head : ℕ)
      → Links m 0 (of_class sllen i j free) head → Links n 0 (of_class sllen i j free) head
  Links-other_class i j other free inside head links =
      Links-Rewrites 0 (of_class sllen i j free) head rewrites (λ f k. placed f (inside f (IsIn-of_class sllen i j f free k).0))
      (λ f k. let is = IsIn-of_class sllen i j f free k in no_link i j other f (inside f is.0) (has_class-true sllen (class_at i j) f is.1))
      links
