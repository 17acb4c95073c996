-- What a fill makes of the used blocks.
use Rattle.std.proofs.Common.{◌≡◌, ◌≢◌, ◌⊎◌, ℕ, ◌+◌, cond, eqb, map, List, [], ◌∷◌, refl, sym, ◌∙◌, ap, subst, inl, inr}
use Rattle.std.proofs.lemmas.Bool.{cases_eq, eq-eqb, ne_eqb}
use Rattle.rlsf_model.specs.Lists.{IsIn}
use Rattle.rlsf_model.specs.Run.{Fills}
use Rattle.rlsf_model.specs.State.{State, Used, shape_of, AreAlike, Holds}
use Rattle.rlsf_model.specs.WellFormed.{covers, coverage}
use Rattle.rlsf_model.proofs.Coverage.{by_test, IsIn-map, IsIn-map_from}
use Rattle.rlsf_model.proofs.Tiling.{block_of}
use Rattle.rlsf_model.proofs.Names.{used_with_bytes, filled_if, filled_at}

module _ (addr : ℕ) (bytes : List ℕ) where
  pub filled_if-here : (u : Used) → u.payload ≡ addr → filled_if addr bytes u ≡ used_with_bytes u bytes
  filled_if-here u at = ap (λ b. cond b (used_with_bytes u bytes) u) (eq-eqb u.payload addr at)

  pub filled_if-other : (u : Used) → u.payload ≢ addr → filled_if addr bytes u ≡ u
  filled_if-other u apart = ap (λ b. cond b (used_with_bytes u bytes) u) (ne_eqb u.payload addr apart)

  -- ---- which blocks there are

  -- the block at the address has the bytes
  pub IsIn-filled : (u : Used) (used : List Used) → IsIn u used → u.payload ≡ addr → IsIn (used_with_bytes u bytes) (filled_at addr bytes used)
  IsIn-filled u used i at = subst (λ v. IsIn v (filled_at addr bytes used)) (filled_if-here u at) (IsIn-map (filled_if addr bytes) u used i)

  -- every other block is as it was
  pub IsIn-filled_other : (u : Used) (used : List Used) → IsIn u used → u.payload ≢ addr → IsIn u (filled_at addr bytes used)
  IsIn-filled_other u used i apart = subst (λ v. IsIn v (filled_at addr bytes used)) (filled_if-other u apart) (IsIn-map (filled_if addr bytes) u used i)

  -- and there are no more
  pub IsIn-filled_from : (v : Used) (used : List Used) → IsIn v (filled_at addr bytes used)
      → ((u : Used) × IsIn u used × (u.payload ≡ addr) × (v ≡ used_with_bytes u bytes)) ⊎ (IsIn v used × (v.payload ≢ addr))
  IsIn-filled_from v used i =
      let (u, j, is) = IsIn-map_from (filled_if addr bytes) v used i in
      elim (cases_eq u.payload addr) [
        | inl at ↦ inl (u, j, at, is ∙ filled_if-here u at)
        | inr apart ↦
            let same : u ≡ v = sym (is ∙ filled_if-other u apart) in
            inr (subst (λ x. IsIn x used) same j, subst (λ x. x.payload ≢ addr) same apart)
      ]

  -- a block with another address was there before
  pub IsIn-filled_other_from : (v : Used) (used : List Used) → IsIn v (filled_at addr bytes used) → v.payload ≢ addr → IsIn v used
  IsIn-filled_other_from v used i apart = elim (IsIn-filled_from v used i) [
    | inl new ↦ absurd (apart (ap (λ x. x.payload) new.3 ∙ new.2))
    | inr was ↦ was.0
  ]

  -- used blocks none of which has the address are all as they were
  pub filled_at-none : (used : List Used) → ((v : Used) → IsIn v used → v.payload ≢ addr) → filled_at addr bytes used ≡ used
  filled_at-none [] none = refl
  filled_at-none (u ∷ us) none = λ k. filled_if-other u (none u (inl refl)) k ∷ filled_at-none us (λ v i. none v (inr i)) k

  -- ---- except for the bytes nothing changes

  shape-filled_if : (u : Used) → shape_of (filled_if addr bytes u) ≡ shape_of u
  shape-filled_if u = by_test (eqb u.payload addr)
      (λ e. ap (λ b. shape_of (cond b (used_with_bytes u bytes) u)) e)
      (λ e. ap (λ b. shape_of (cond b (used_with_bytes u bytes) u)) e)

  -- a block had its range, its address and its alignment before
  pub shape-filled_from : (v : Used) (used : List Used) → IsIn v (filled_at addr bytes used) → (u : Used) × IsIn u used × (shape_of v ≡ shape_of u)
  shape-filled_from v used i =
      let (u, j, is) = IsIn-map_from (filled_if addr bytes) v used i in
      (u, j, ap shape_of is ∙ shape-filled_if u)

  pub shapes-filled : (used : List Used) → map shape_of (filled_at addr bytes used) ≡ map shape_of used
  shapes-filled [] = refl
  shapes-filled (u ∷ us) = λ k. shape-filled_if u k ∷ shapes-filled us k

  pub coverage-filled : (used : List Used) (a : ℕ) → coverage block_of (filled_at addr bytes used) a ≡ coverage block_of used a
  coverage-filled [] a = refl
  coverage-filled (u ∷ us) a = λ k. covers (shape-filled_if u k).block a + coverage-filled us a k

module _ {s t : State} {addr : ℕ} {bytes : List ℕ} (step : Fills s addr bytes t) where
  pub AreAlike-filled : AreAlike s t
  AreAlike-filled = record {
    chunks = ap (λ x. x.chunks) (sym step.after);
    used = sym (ap (λ x. map shape_of x.used) step.after ∙ shapes-filled addr bytes s.used);
    free = ap (λ x. x.free) (sym step.after);
  }

  -- the payload that was filled has the bytes that were left, and the block and the alignment that it had
  pub filled_holds : Holds t addr (used_with_bytes step.block bytes)
  filled_holds = (subst (λ x. IsIn (used_with_bytes step.block bytes) x.used) (sym step.after) (IsIn-filled addr bytes step.block s.used step.holds.0 step.holds.1), step.holds.1)
