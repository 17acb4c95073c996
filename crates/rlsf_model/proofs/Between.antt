-- Lists with one range more among them.
use Rattle.std.proofs.Common.{◌≡◌, ℕ, ◌+◌, List, ◌∷◌, ◌++◌, arith, inl, inr}
use Rattle.rlsf_base.specs.declared.memory.range.Range.{Range}
use Rattle.rlsf_model.specs.Lists.{IsIn}
use Rattle.rlsf_model.specs.WellFormed.{covers, coverage, itself}
use Rattle.rlsf_model.proofs.Coverage.{IsIn-append, IsIn-append_left, IsIn-append_right, coverage-append}

-- an element of the others is one of all
pub IsIn-between : (q r : Range) (xs ys : List Range) → IsIn q (xs ++ ys) → IsIn q (xs ++ r ∷ ys)
IsIn-between q r xs ys i = elim (IsIn-append q xs ys i) [ inl l ↦ IsIn-append_left q xs (r ∷ ys) l | inr h ↦ IsIn-append_right q xs (r ∷ ys) (inr h) ]

-- the one range is counted once more
pub coverage-between : (r : Range) (xs ys : List Range) (a : ℕ) → coverage itself (xs ++ r ∷ ys) a ≡ covers r a + coverage itself (xs ++ ys) a
coverage-between r xs ys a = omega (arith, coverage-append itself xs (r ∷ ys) a, coverage-append itself xs ys a)
