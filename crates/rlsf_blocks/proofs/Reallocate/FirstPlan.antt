-- A reallocation follows the first plan that can be, or else it goes elsewhere.
use Rattle.std.specs.Option.{option_or}
use Rattle.std.proofs.Common.{◌≡◌, ℕ, Option, Some, None, MatchOption, IfNone, refl, sym, ◌∙◌, ap, subst}
use Rattle.rlsf_base.specs.Space.{Space}
use Rattle.rlsf_model.specs.Allocate.{Allocates}
use Rattle.rlsf_model.specs.Reallocate.{Plan, in_place, into_next, into_previous, plan, MovesAway, ReallocatesBy, Replans}
use Rattle.rlsf_model.specs.State.{State, Used}
use Rattle.rlsf_blocks.specs.Spare.{KeepsSpare}
use Rattle.rlsf_blocks.specs.StandsFor.{contents, StandsFor}
use Rattle.rlsf_table.specs.Counts.{Counts}
use Rattle.rlsf_blocks.specs.Steps.Resize.{IsCarriedOut, StepsToReallocated, IsUsedAt}
use Rattle.rlsf_table.specs.Table.{Table}
use Rattle.rlsf_blocks.proofs.RepresentedStates.Counted.{KeepsSpare-counted, KeepsSpare-counted_first, StandsFor-counted}

-- a used block of some alignment has its own
pub own_align : {s : State} {u : Used} {block payload align : ℕ} → IsUsedAt s u block payload align → IsUsedAt s u block payload u.align
own_align at = record { is_used = at.is_used; start = at.start; caller = at.caller; alignment = refl }

-- ---- choices of plans

or_else-associative : (p q r : Option Plan) → option_or p (option_or q r) ≡ option_or (option_or p q) r
or_else-associative None q r = refl
or_else-associative (Some p) q r = refl

pub or_else-none_first : (p q : Option Plan) → option_or p q ≡ None → p ≡ None
or_else-none_first None q none = refl
or_else-none_first (Some p) q none = absurd (cc)

module _ (s : State) (u : Used) (size : ℕ) where
  -- the last plan, if neither of the first two can be
  pub plan-moves : option_or (in_place s u size) (into_next s u size) ≡ None → plan s u size ≡ into_previous s u size
  plan-moves none = or_else-associative (in_place s u size) (into_next s u size) (into_previous s u size) ∙ ap (λ o. option_or o (into_previous s u size)) none

  pub in_place-none : option_or (in_place s u size) (into_next s u size) ≡ None → in_place s u size ≡ None
  in_place-none = or_else-none_first (in_place s u size) (into_next s u size)

-- ---- the step that was made

module _ {fllen sllen : ℕ} (m n : Space) (table changed : Table) (s : State) where
  -- what was refused changed nothing
  pub StandsFor-unchanged : (most : ℕ) → Counts m n most × (changed ≡ table) → StandsFor fllen sllen (contents m table) s → StandsFor fllen sllen (contents n changed) s
  StandsFor-unchanged most (counts, same) v = subst (λ x. StandsFor fllen sllen (contents n x) s) (sym same) (StandsFor-counted m n counts.start counts.bytes counts.out v)

  module _ (u : Used) (size : ℕ) where
    -- a plan was carried out
    pub IsReallocated-planned : (p : Plan) (addr : ℕ) → plan s u size ≡ Some p → p.payload ≡ addr
        → IsCarriedOut fllen sllen (contents m table) (contents n changed) s u p → StepsToReallocated fllen sllen m n changed s u size (Some addr)
    IsReallocated-planned p addr first at (t, replans, stands, spare) =
        (t, subst (λ o. ReallocatesBy sllen s u size o (Some addr) t) (sym first) (subst (λ a. Replans s u p a t) at replans), stands, spare)

    -- no plan can be
    pub IsReallocated-elsewhere : (reply : Option ℕ) (most : ℕ) → plan s u size ≡ None → StandsFor fllen sllen (contents m table) s
        → IfNone reply (Counts m n most × (changed ≡ table))
        → MatchOption reply (Allocates sllen s size u.align None s)
        (λ addr. (t : State) × MovesAway sllen s u size addr t × StandsFor fllen sllen (contents n changed) t × KeepsSpare m s n t)
        → StepsToReallocated fllen sllen m n changed s u size reply
    IsReallocated-elsewhere None most none v unchanged refused = (
      s,
      subst (λ o. ReallocatesBy sllen s u size o None s) (sym none) refused,
      StandsFor-unchanged most unchanged v,
      KeepsSpare-counted m n unchanged.0.start unchanged.0.bytes unchanged.0.out s s,
    )
    IsReallocated-elsewhere (Some addr) most none v unchanged (t, moves, stands, spare) =
        (t, subst (λ o. ReallocatesBy sllen s u size o (Some addr) t) (sym none) moves, stands, spare)

    -- something was refused before that
    pub IsReallocated-counted_first : (l : Space) (most : ℕ) (reply : Option ℕ) → Counts l m most → StepsToReallocated fllen sllen m n changed s u size reply
        → StepsToReallocated fllen sllen l n changed s u size reply
    IsReallocated-counted_first l most reply counts (t, step, stands, spare) = (t, step, stands, KeepsSpare-counted_first l m counts.start counts.bytes counts.out s t n spare)
