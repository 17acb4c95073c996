-- Each step and each run keeps a state well-formed.
use Rattle.std.proofs.Common.{ℕ, List, [], ◌∷◌, length, arith, sym, ◌∙◌, ap, subst, inl, inr}
use Rattle.rlsf_base.specs.declared.memory.range.Range.{Range}
use Rattle.rlsf_model.specs.Laws.{EmptyIsWellFormed, StepsKeepWellFormed, RunsKeepWellFormed}
use Rattle.rlsf_model.specs.Lists.{IsIn}
use Rattle.rlsf_model.specs.Run.{insert, append, allocate, deallocate, reallocate, fill, remove, trim, Fills}
use Rattle.rlsf_model.specs.State.{State, Used}
use Rattle.rlsf_model.specs.WellFormed.{IsUsed, IsWellFormed}
use Rattle.rlsf_model.proofs.Allocations.{Allocates-keeps}
use Rattle.rlsf_model.proofs.Appends.{Appends-keeps}
use Rattle.rlsf_model.proofs.Changes.{reblocked, Holds-unique}
use Rattle.rlsf_model.proofs.Fillings.{coverage-filled, IsIn-filled_from}
use Rattle.rlsf_model.proofs.Insertions.{Inserts-keeps}
use Rattle.rlsf_model.proofs.Reallocations.{Reallocates-keeps}
use Rattle.rlsf_model.proofs.Releases.{Deallocates-keeps}
use Rattle.rlsf_model.proofs.Removals.{Removes-keeps}
use Rattle.rlsf_model.proofs.Names.{filled_at}

pub empty_is_well_formed : EmptyIsWellFormed
empty_is_well_formed fllen sllen memory rows row_length addressable = grind arith

-- other bytes in a payload keep a state well-formed
pub Fills-keeps : {fllen sllen : ℕ} {memory : Range} {s : State} → IsWellFormed fllen sllen memory s → (addr : ℕ) (bytes : List ℕ) (t : State) → Fills s addr bytes t
    → IsWellFormed fllen sllen memory t
Fills-keeps {fllen} {sllen} {memory} {s} w addr bytes t step =
    subst (IsWellFormed fllen sllen memory) (sym step.after)
    (reblocked w (filled_at addr bytes s.used) s.free
    is_used
    (λ f i. let free = w.free f i in (free.whole, free.some))
    (λ a. omega (arith, coverage-filled addr bytes s.used a))
    w.apart)
  where
    is_used : (x : Used) → IsIn x (filled_at addr bytes s.used) → IsUsed x
    is_used x i = elim (IsIn-filled_from addr bytes x s.used i) [
      | inl new ↦
          let (u, j, at, same) = new in
          let is = w.used u j in
          let long = step.length ∙ ap (λ y. length y.bytes) (Holds-unique w addr step.block u step.holds (j, at)) ∙ is.bytes in
          subst IsUsed (sym same) (record { whole = is.whole; power = is.power; placed = is.placed; within = is.within; bytes = long })
      | inr was ↦ w.used x was.0
    ]

pub steps_keep_well_formed : StepsKeepWellFormed
steps_keep_well_formed fllen sllen memory s t (insert r reply) w may step = Inserts-keeps w r may reply t step
steps_keep_well_formed fllen sllen memory s t (append r reply) w may step = Appends-keeps w r may.fresh reply t step
steps_keep_well_formed fllen sllen memory s t (allocate size align reply) w may step = Allocates-keeps w size align reply t may step
steps_keep_well_formed fllen sllen memory s t (deallocate addr) w may step = Deallocates-keeps w addr t step
steps_keep_well_formed fllen sllen memory s t (reallocate addr size reply) w may step = Reallocates-keeps w addr size reply t step
steps_keep_well_formed fllen sllen memory s t (fill addr bytes) w may step = Fills-keeps w addr bytes t step
steps_keep_well_formed fllen sllen memory s t (remove r) w may step = Removes-keeps w r may t step
steps_keep_well_formed fllen sllen memory s t (trim count) w may step = absurd step

pub runs_keep_well_formed : RunsKeepWellFormed
runs_keep_well_formed fllen sllen memory s t [] w run = subst (IsWellFormed fllen sllen memory) (sym run) w
runs_keep_well_formed fllen sllen memory s t (e ∷ es) w (u, may, step, rest) =
    runs_keep_well_formed fllen sllen memory u t es (steps_keep_well_formed fllen sllen memory s u e w may step) rest
