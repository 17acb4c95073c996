-- Bytes that are spare after some steps were spare before them, so what each step keeps, all of them keep.
use Rattle.std.proofs.Common.{ℕ, ◌+◌, ◌<◌, ◌≤◌, arith, inl, inr, sym, ◌∙◌, subst}
use Rattle.rlsf_base.specs.Range.{end_of}
use Rattle.rlsf_base.specs.Space.{Space, SamePlace}
use Rattle.rlsf_model.specs.Run.{Event, IsRemoval, Leads}
use Rattle.rlsf_model.specs.State.{State}
use Rattle.rlsf_model.proofs.Chunks.{chunks_stay}
use Rattle.rlsf_blocks.specs.InBand.{sentinel_of}
use Rattle.rlsf_blocks.specs.Spare.{IsSpare, KeepsSpare}

-- a step that takes no memory away makes no byte spare that wasn't
pub IsSpare-before : (fllen sllen : ℕ) (s t : State) (e : Event) (a : ℕ) → (IsRemoval e → ⊥) → Leads fllen sllen s e t → IsSpare t a → IsSpare s a
IsSpare-before fllen sllen s t e a lasts step spare c i from to =
    let (d, j, start, longer) = chunks_stay fllen sllen s t e c lasts step i in
    elim longer [
      | inl same ↦ subst (λ x. sentinel_of x + 16 ≤ a) same (spare d j (omega arith) (subst (λ x. a < end_of x) (sym same) to))
      | inr more ↦ absurd (omega (arith, spare d j (omega arith) (omega arith)))
    ]

-- what is kept over what leads from s to t, and then over a step from t to u, is kept over both
pub KeepsSpare-trans : (fllen sllen : ℕ) (m n o : Space) (s t u : State) (e : Event) → (IsRemoval e → ⊥) → SamePlace m n → Leads fllen sllen t e u
    → KeepsSpare m s n t → KeepsSpare n t o u → KeepsSpare m s o u
KeepsSpare-trans fllen sllen m n o s t u e lasts place step first second a from to spare_s spare_u =
    let spare_t = IsSpare-before fllen sllen t u e a lasts step spare_u in
    second a (omega (arith, place.0)) (omega (arith, place.0, place.1)) spare_t spare_u ∙ first a from to spare_s spare_t
