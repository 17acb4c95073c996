-- A payload that was allocated and then filled is one that was allocated with these bytes.
use Rattle.std.proofs.Common.{ℕ, List, Some, length, inl, refl, sym, ◌∙◌, ap, subst}
use Rattle.rlsf_base.specs.declared.memory.range.Range.{Range}
use Rattle.rlsf_model_sizes.specs.PowerOfTwo.{IsPowerOfTwo}
use Rattle.rlsf_base.specs.Space.{SamePlace}
use Rattle.rlsf_model.specs.Allocate.{Allocates, placed, Places}
use Rattle.rlsf_model.specs.Run.{Fills, fill}
use Rattle.rlsf_model.specs.State.{State, Used, Holds}
use Rattle.rlsf_model.specs.WellFormed.{IsWellFormed}
use Rattle.rlsf_model.proofs.Changes.{Holds-unique}
use Rattle.rlsf_model.proofs.Live.{allocated_filled}
use Rattle.rlsf_blocks.proofs.RepresentedStates.SpareBytes.{KeepsSpare-trans}
use Rattle.rlsf_tlsf.specs.Allocator.{Allocator, Steps}
use Rattle.rlsf_tlsf.proofs.Standing.{in_state}

-- in the reference model
pub Places-filled : {fllen sllen : ℕ} {memory other : Range} {s t r : State} {size align addr : ℕ} {bytes : List ℕ} → IsWellFormed fllen sllen memory s
    → IsWellFormed fllen sllen other t → IsPowerOfTwo align → Places sllen s size align addr t → Fills t addr bytes r
    → Places sllen s size align addr r
Places-filled {t = t} {size = size} {align = align} {addr = addr} {bytes = bytes} before after power step fills =
    let new : Used = placed step.range size align step.bytes in
    let holds : Holds t addr new = subst (λ x. Holds x addr new) (sym step.after) (inl refl, sym step.answer) in
    record {
      range = step.range;
      bytes = bytes;
      chosen = step.chosen;
      answer = step.answer;
      length = fills.length ∙ ap (λ (x : Used). length x.bytes) (Holds-unique after addr fills.block new fills.holds holds) ∙ step.length;
      after = allocated_filled before power step fills;
    }

-- of an allocator
pub Steps-filled : {fllen sllen : ℕ} {memory : Range} (before made after : Allocator) (size align addr : ℕ) (bytes : List ℕ)
    → IsWellFormed fllen sllen memory before.state → IsPowerOfTwo align → SamePlace before.memory made.memory
    → Steps fllen sllen before made (Allocates sllen before.state size align (Some addr)) → Steps fllen sllen made after (Fills made.state addr bytes)
    → Steps fllen sllen before after (Allocates sllen before.state size align (Some addr))
unfolding Steps
Steps-filled {fllen = fllen} {sllen = sllen} before made after size align addr bytes w power place (step, stands, spare) (fills, last, rest) = (
  Places-filled w (in_state fllen sllen made stands).stands.well_formed power step fills,
  last,
  KeepsSpare-trans fllen sllen before.memory made.memory after.memory before.state made.state after.state (fill addr bytes) (λ bad. bad) place fills spare rest,
)
