-- A reallocation leaves a state well-formed.
use Rattle.std.proofs.Common.{◌≡◌, ℕ, Option, Some, None, refl, sym, subst}
use Rattle.rlsf_base.specs.declared.memory.range.Range.{Range}
use Rattle.rlsf_model.specs.Lists.{IsIn}
use Rattle.rlsf_model.specs.Reallocate.{Plan, plan, ReallocatesBy, Reallocates}
use Rattle.rlsf_model.specs.State.{State, Used}
use Rattle.rlsf_model.specs.WellFormed.{IsWellFormed}
use Rattle.rlsf_model.proofs.Allocations.{Allocates-keeps}
use Rattle.rlsf_model.proofs.Plans.{IsSound-plan, IsWellFormed-replanned}
use Rattle.rlsf_model.proofs.Releases.{Deallocates-keeps}

module _ {fllen sllen : ℕ} {memory : Range} {s : State} (w : IsWellFormed fllen sllen memory s) where
  ReallocatesBy-keeps : (u : Used) → IsIn u s.used → (size : ℕ) (o : Option Plan) → plan s u size ≡ o → (reply : Option ℕ) (t : State)
      → ReallocatesBy sllen s u size o reply t → IsWellFormed fllen sllen memory t
  ReallocatesBy-keeps u h size (Some p) e None t step = absurd step
  ReallocatesBy-keeps u h size (Some p) e (Some addr) t step =
      subst (IsWellFormed fllen sllen memory) (sym step.after) (IsWellFormed-replanned w u h size p (IsSound-plan w u h size p e) step.bytes step.length)
  ReallocatesBy-keeps u h size None e None t step = subst (IsWellFormed fllen sllen memory) (sym step.1) w
  ReallocatesBy-keeps u h size None e (Some addr) t step =
      let kept = Allocates-keeps w size u.align (Some addr) step.meanwhile (w.used u h).power step.allocated in
      Deallocates-keeps kept u.payload t step.released

  -- a reallocation keeps a state well-formed, whatever its reply
  pub Reallocates-keeps : (addr size : ℕ) (reply : Option ℕ) (t : State) → Reallocates sllen s addr size reply t → IsWellFormed fllen sllen memory t
  Reallocates-keeps addr size reply t step = ReallocatesBy-keeps step.block step.holds.0 size (plan s step.block size) refl reply t step.step
