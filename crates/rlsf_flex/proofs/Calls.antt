-- The calls of the allocator over pools that leave the chunks, as calls of the one over a source.
use Rattle.std.proofs.Common.{◌≡◌, ℕ, List, [], refl, ◌∙◌, subst}
use Rattle.rlsf_base.specs.declared.memory.range.Range.{Range}
use Rattle.rlsf_base.specs.Space.{SamePlace}
use Rattle.rlsf_tlsf.specs.Allocator.{Allocator, IsInState, IsStanding, Stands, Steps}
use Rattle.rlsf_tlsf.specs.Lending.{LeavesRest}
use Rattle.rlsf_flex.specs.StandsFor.{FlexContents, FlexStandsFor, IsFlexTlsf, StepsAlone, allocator_of, with_allocator}
use Rattle.rlsf_model.specs.State.{State}
use Rattle.rlsf_model.specs.Terms.{Terms}
use Rattle.rlsf_flex.proofs.Frames.{stands_stepped}
use Rattle.rlsf_flex.proofs.InnerAllocator.{opened, stood}

-- what leaves the state is in it
pub stays_in : {fllen sllen : ℕ} {v : Allocator} {s : State} → IsInState fllen sllen v s → (new : Allocator) → new.state ≡ v.state → Stands fllen sllen new
    → IsInState fllen sllen new s
unfolding Stands
stays_in {fllen} {sllen} is new same stands = record { state = same ∙ is.state; stands = subst (IsStanding fllen sllen new.memory) (same ∙ is.state) stands }

module _ {S : Type 0} {fllen sllen : ℕ} {terms : S → Terms} {owes : S → List Range → Type 0} {v : FlexContents S} (h : FlexStandsFor fllen sllen terms owes v)
    (new : Allocator) (step : State → Type 0) (place : SamePlace v.memory new.memory) (none : v.memory.out ≡ [])
    (chunks : new.state.chunks ≡ v.state.machine.chunks) (did : Steps fllen sllen (allocator_of v) new step) where
  -- a step of the one over pools asks the source nothing
  pub stands_alone : FlexStandsFor fllen sllen terms owes (with_allocator v new)
  stands_alone = let (is, stands, spare) = opened _ new step did in stands_stepped h new stands chunks spare place none

  pub steps_alone : StepsAlone fllen sllen terms owes v (with_allocator v new) step
  unfolding StepsAlone
  steps_alone = let (is, stands, spare) = opened _ new step did in (is, refl, stands_alone, spare)

-- whatever was left in a payload that was lent, the one over a source has the state with it
pub left : {S : Type 0} {fllen sllen : ℕ} {terms : S → Terms} {owes : S → List Range → Type 0} {v : FlexContents S} → FlexStandsFor fllen sllen terms owes v
    → (new : Allocator) → LeavesRest fllen sllen (allocator_of v) new → v.memory.out ≡ [] → FlexStandsFor fllen sllen terms owes (with_allocator v new)
left h new (chunks, place, stands, touches, copied, spare) none = stands_stepped h new (stood new stands) chunks spare place none

-- and what is true of every allocator's fields stays true
pub IsFlexTlsf-alone : {S : Type 0} {fl_bits sl_bits fllen sllen : ℕ} {terms : S → Terms} {owes : S → List Range → Type 0} {v : FlexContents S}
    → IsFlexTlsf fl_bits sl_bits fllen sllen terms owes v → (new : Allocator) (step : State → Type 0) → SamePlace v.memory new.memory
    → new.state.chunks ≡ v.state.machine.chunks → Steps fllen sllen (allocator_of v) new step → IsFlexTlsf fl_bits sl_bits fllen sllen terms owes (with_allocator v new)
IsFlexTlsf-alone is new step place chunks did =
    record { valid = is.valid; stands = stands_alone is.stands new step place is.whole chunks did; whole = place.3 is.whole }
