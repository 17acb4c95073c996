-- A range leaves, comes back, or is written: what its bytes are then, and what those beside it are.
use Rattle.std.proofs.Common.{◌≡◌, ◌-◌, ◌≤◌, ap, arith, ◌∙◌, true, ◌∷◌}
use Rattle.std.proofs.lemmas.Bool.{cases_lt}
use Rattle.rlsf_base.specs.declared.memory.range.Range.{Range}
use Rattle.rlsf_base.specs.Out.{Kept, is_own, kept_at}
use Rattle.rlsf_base.specs.Changes.{change}
use Rattle.rlsf_base.specs.Space.{Space}
use Rattle.rlsf_base.specs.OpenSpace.{IsHere, IsOwned, SameOwn, StaysHere, StaysHereBeside, StaysOwn, StaysOwnBeside, out_with}
use Rattle.rlsf_base.proofs.Changes.{back-there, back-before, back-behind, changed-there, changed-before, changed-behind}

-- a range is written, or comes back with values
module _ (m n : Space) (r : Range) (inside : m.start ≤ r.start) (start : n.start ≡ m.start) (out : n.out ≡ out_with m r) where
  pub with-here : IsHere n r
  with-here a lo hi = (λ i. kept_at (out i) (a - start i)) ∙ back-there m.out (r.start - m.start) r.len (a - m.start) (omega (arith, inside, lo)) (omega (arith, inside, lo, hi))

  pub with-stays : StaysHere m n
  with-stays a from was = grind (arith, cases_lt, back-before, with-here, back-behind)

  pub with-own : StaysOwn m n
  with-own a from was = grind (arith, cases_lt, back-before, with-here, back-behind)

  pub with-same_own : IsOwned m r → SameOwn m n
  with-same_own own a from = grind (arith, cases_lt, back-before, with-here, back-behind)

-- a range leaves, or comes back without values
module _ (t : Kept) (m n : Space) (r : Range) (inside : m.start ≤ r.start) (start : n.start ≡ m.start) (out : n.out ≡ change t (r.start - m.start) r.len ∷ m.out) where
  pub changed-own : is_own t ≡ true → IsOwned n r
  changed-own own a lo hi =
      ap is_own ((λ i. kept_at (out i) (a - start i))
      ∙ changed-there t m.out (r.start - m.start) r.len (a - m.start) (omega (arith, inside, lo)) (omega (arith, inside, lo, hi))) ∙ own

  pub changed-stays : StaysHereBeside m n r
  changed-stays a from side was = grind (arith, changed-before, changed-behind)

  pub changed-own_stays : StaysOwnBeside m n r
  changed-own_stays a from side was = grind (arith, changed-before, changed-behind)
