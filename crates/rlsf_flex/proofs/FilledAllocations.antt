-- A payload that an allocator over a source allocated and then filled is one that was allocated with these bytes.
use Rattle.std.proofs.Common.{◌≡◌, ℕ, List, Some, inl, inr, arith, ◌∙◌, ap, subst}
use Rattle.rlsf_base.specs.declared.memory.range.Range.{Range}
use Rattle.rlsf_model_sizes.specs.PowerOfTwo.{IsPowerOfTwo}
use Rattle.rlsf_model_sizes.specs.SizeClass.{IsValid}
use Rattle.rlsf_base.specs.Space.{SamePlace}
use Rattle.rlsf_tlsf.specs.Allocator.{Allocator}
use Rattle.rlsf_flex.specs.StandsFor.{FillsAlone, FlexContents, FlexStandsFor, FlexSteps, StepsAlone, with_allocator}
use Rattle.rlsf_model.specs.Answers.{MayAnswerAll}
use Rattle.rlsf_model.specs.FlexAllocate.{FlexAllocates}
use Rattle.rlsf_model.specs.FlexState.{FlexState, with_machine}
use Rattle.rlsf_model.specs.FlexWellFormed.{IsFlexWellFormed}
use Rattle.rlsf_model.specs.Note.{Note}
use Rattle.rlsf_model.specs.Run.{Fills}
use Rattle.rlsf_model.specs.State.{State}
use Rattle.rlsf_model.specs.Terms.{Terms}
use Rattle.rlsf_model.specs.WellFormed.{IsWellFormed}
use Rattle.rlsf_model.proofs.Chunks.{chunks-filled}
use Rattle.rlsf_model.proofs.FlexSteps.{asked_keeps}
use Rattle.rlsf_tlsf.proofs.FilledAllocations.{Places-filled}
use Rattle.rlsf_flex.proofs.OutsideNow.{KeepsOutsideNow-stands}
use Rattle.rlsf_flex.proofs.Places.{SamePlace-then}
use Rattle.rlsf_flex.proofs.SpareBytes.{KeepsSpareButFooter-before}

-- over a source
FlexAllocates-filled : {fl_bits sl_bits fllen sllen : ℕ} {memory other : Range} {t : Terms} {s u : FlexState} {size align addr : ℕ} {bytes : List ℕ} {notes : List Note} {x : State}
    → IsValid fl_bits sl_bits fllen sllen → IsFlexWellFormed fllen sllen memory t s → IsWellFormed fllen sllen other u.machine → IsPowerOfTwo align
    → MayAnswerAll t s.pools notes → FlexAllocates fllen sllen t s size align (Some addr) notes u → Fills u.machine addr bytes x
    → FlexAllocates fllen sllen t s size align (Some addr) notes (with_machine u x)
FlexAllocates-filled {fllen = fllen} {sllen = sllen} {other = other} {addr = addr} {bytes = bytes} {x = x} valid before after power answers (inl room) fills =
    let is : ◌≡◌ _ _ = ap (λ (y : FlexState). y.machine) room.after in
    inl (record {
      machine = x;
      allocates =
          Places-filled before.machine (subst (IsWellFormed fllen sllen other) is after) power room.allocates (subst (λ y. Fills y addr bytes x) is fills);
      none = room.none;
      after = ap (λ y. with_machine y x) room.after;
    })
FlexAllocates-filled {fllen = fllen} {sllen = sllen} {other = other} {u = u} {size = size} {align = align} {addr = addr} {bytes = bytes} {notes = notes} {x = x}
    valid before after power answers (inr more) fills =
    let is : ◌≡◌ _ _ = ap (λ (y : FlexState). y.machine) more.after in
    inr (record {
      outcome = more.outcome;
      meanwhile = more.meanwhile;
      asks = more.asks;
      more = more.more;
      machine = x;
      allocates =
          Places-filled (asked_keeps valid before u notes answers size align more.outcome more.meanwhile more.asks).machine (subst (IsWellFormed fllen sllen other) is after) power
          more.allocates (subst (λ y. Fills y addr bytes x) is fills);
      after = ap (λ y. with_machine y x) more.after;
    })

-- of an allocator
pub FlexSteps-filled : {S : Type 0} {fl_bits sl_bits fllen sllen : ℕ} {terms : S → Terms} {owes : S → List Range → Type 0} (leads : S → Note → S → Type 0)
    (v made : FlexContents S) (new : Allocator) (size align addr : ℕ) (bytes : List ℕ) → IsValid fl_bits sl_bits fllen sllen → FlexStandsFor fllen sllen terms owes v
    → IsPowerOfTwo align → SamePlace made.memory new.memory
    → FlexSteps fllen sllen terms owes leads v made (FlexAllocates fllen sllen (terms v.source) v.state size align (Some addr))
    → FillsAlone fllen sllen terms owes made (with_allocator made new) addr bytes
    → FlexSteps fllen sllen terms owes leads v (with_allocator made new) (FlexAllocates fllen sllen (terms v.source) v.state size align (Some addr))
unfolding FlexSteps StepsAlone
FlexSteps-filled {terms = terms} leads v made new size align addr bytes valid h power place (notes, is, leads_by, answers, outside, stands, spare) (fills, same, last, rest) =
    let now = KeepsOutsideNow-stands stands last place rest in (
      notes,
      FlexAllocates-filled valid h.well_formed stands.well_formed.machine power answers is fills,
      leads_by,
      answers,
      record {
        place = SamePlace-then v.memory made.memory new.memory outside.place place;
        among = outside.among;
        all_owed = outside.all_owed;
        bytes = λ a low high none.
            now.bytes a (omega (arith, outside.place.0, low)) (omega (arith, outside.place.0, outside.place.1, high)) (outside.among a none) ∙ outside.bytes a low high none;
      },
      last,
      KeepsSpareButFooter-before (terms v.source) v.memory made.memory new.memory v.state made.state outside.place spare new.state
          (chunks-filled made.state.machine new.state addr bytes fills) rest,
    )
