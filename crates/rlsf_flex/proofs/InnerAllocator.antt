-- An allocator over a source, and the one over pools that it has.
use Rattle.std.proofs.Common.{◌≡◌, ℕ, List, [], refl}
use Rattle.rlsf_base.specs.declared.memory.range.Range.{Range}
use Rattle.rlsf_blocks.specs.Spare.{KeepsSpare}
use Rattle.rlsf_tlsf.specs.Allocator.{Allocator, IsInState, IsStanding, Stands, Steps}
use Rattle.rlsf_flex.specs.Outside.{KeepsOutside}
use Rattle.rlsf_flex.specs.SpareBytes.{KeepsSpareButFooter}
use Rattle.rlsf_flex.specs.StandsFor.{FlexContents, FlexStands, FlexStandsFor, FlexSteps, StepsAlone, allocator_of}
use Rattle.rlsf_model.specs.FlexState.{FlexState, with_machine}
use Rattle.rlsf_model.specs.Note.{LeadsBy, Note}
use Rattle.rlsf_model.specs.State.{State}
use Rattle.rlsf_model.specs.Terms.{Terms}

-- the reference model's state is well-formed in its memory
pub inner_stands : {S : Type 0} {fllen sllen : ℕ} {terms : S → Terms} {owes : S → List Range → Type 0} {v : FlexContents S} → FlexStandsFor fllen sllen terms owes v
    → v.memory.out ≡ [] → IsStanding fllen sllen v.memory v.state.machine
inner_stands h whole = record { nonzero = h.nonzero; well_formed = h.well_formed.machine; payloads = h.payloads; whole = whole }

-- and the one over pools is in that state
pub inner_in : {S : Type 0} {fllen sllen : ℕ} {terms : S → Terms} {owes : S → List Range → Type 0} {v : FlexContents S} → FlexStandsFor fllen sllen terms owes v
    → v.memory.out ≡ [] → IsInState fllen sllen (allocator_of v) v.state.machine
inner_in h whole = record { state = refl; stands = inner_stands h whole }

-- what a step of the allocator over pools says
pub opened : {fllen sllen : ℕ} (old new : Allocator) (step : State → Type 0) → Steps fllen sllen old new step
    → step new.state × IsStanding fllen sllen new.memory new.state × KeepsSpare old.memory old.state new.memory new.state
unfolding Steps Stands
opened old new step did = did

-- what holds of it
pub stood : {fllen sllen : ℕ} (v : Allocator) → Stands fllen sllen v → IsStanding fllen sllen v.memory v.state
unfolding Stands
stood v is = is

pub stood_at : {fllen sllen : ℕ} (v : Allocator) → IsStanding fllen sllen v.memory v.state → Stands fllen sllen v
unfolding Stands
stood_at v is = is

-- the parts of an allocator over a source represent its state
pub flex_stood_at : {S : Type 0} {fllen sllen : ℕ} {terms : S → Terms} {owes : S → List Range → Type 0} {v : FlexContents S} → FlexStandsFor fllen sllen terms owes v
    → FlexStands fllen sllen terms owes v
unfolding FlexStands
flex_stood_at h = h

pub flex_stood : {S : Type 0} {fllen sllen : ℕ} {terms : S → Terms} {owes : S → List Range → Type 0} (v : FlexContents S) → FlexStands fllen sllen terms owes v
    → FlexStandsFor fllen sllen terms owes v
unfolding FlexStands
flex_stood v h = h

-- what a step says that asks the source nothing
pub alone_opened : {S : Type 0} {fllen sllen : ℕ} {terms : S → Terms} {owes : S → List Range → Type 0} (v w : FlexContents S) (step : State → Type 0)
    → StepsAlone fllen sllen terms owes v w step
    → step w.state.machine × (w.state ≡ with_machine v.state w.state.machine) × FlexStandsFor fllen sllen terms owes w
    × KeepsSpare v.memory v.state.machine w.memory w.state.machine
unfolding StepsAlone
alone_opened v w step did = did

-- what a step of an allocator over a source says
pub flex_opened : {S : Type 0} {fllen sllen : ℕ} {terms : S → Terms} {owes : S → List Range → Type 0} {leads : S → Note → S → Type 0} (v w : FlexContents S)
    (step : List Note → FlexState → Type 0) → FlexSteps fllen sllen terms owes leads v w step
    → (notes : List Note) × step notes w.state × LeadsBy leads v.source notes w.source × KeepsOutside v.memory v.state.pools notes w.memory w.state.pools
    × FlexStandsFor fllen sllen terms owes w
unfolding FlexSteps
flex_opened v w step (notes, is, leads_by, answers, outside, stands, spare) = (notes, is, leads_by, outside, stands)

-- and of the bytes that no block is made of
pub flex_spare : {S : Type 0} (fllen sllen : ℕ) (terms : S → Terms) (owes : S → List Range → Type 0) (leads : S → Note → S → Type 0) (v w : FlexContents S)
    (step : List Note → FlexState → Type 0) → FlexSteps fllen sllen terms owes leads v w step
    → KeepsSpareButFooter (terms v.source) v.memory v.state w.memory w.state
unfolding FlexSteps
flex_spare fllen sllen terms owes leads v w step (notes, is, leads_by, answers, outside, stands, spare) = spare

-- an allocator over a source by its parts and its state
abbrev pub contents_at : {S : Type 0} → Allocator → S → FlexState → FlexContents S
contents_at d y s = record { memory = d.memory; table = d.table; source = y; state = s }
