-- A deallocation leaves a state well-formed.
use Rattle.std.proofs.Common.{ℕ, arith, refl, sym, subst}
use Rattle.rlsf_base.specs.declared.memory.range.Range.{Range}
use Rattle.rlsf_model.specs.Join.{join}
use Rattle.rlsf_model.specs.Lists.{IsIn}
use Rattle.rlsf_model.specs.Release.{released, Deallocates}
use Rattle.rlsf_model.specs.State.{State, Used, others}
use Rattle.rlsf_model.specs.WellFormed.{IsWellFormed}
use Rattle.rlsf_model.proofs.Changes.{reblocked, coverage-others, IsIn-others}
use Rattle.rlsf_model.proofs.Joins.{IsSound, coverage-join, IsSound-join}
use Rattle.rlsf_model.proofs.Payloads.{IsUsed-some}

pub IsSound-free : {fllen sllen : ℕ} {memory : Range} {s : State} → IsWellFormed fllen sllen memory s → IsSound s.free
IsSound-free w = record { whole = λ f h. let free = w.free f h in (free.whole, free.some); apart = w.apart }

pub IsWellFormed-released : {fllen sllen : ℕ} {memory : Range} {s : State} → IsWellFormed fllen sllen memory s → (u : Used) → IsIn u s.used
    → IsWellFormed fllen sllen memory (released s u)
IsWellFormed-released {s = s} w u h =
    let is = w.used u h in
    let some = IsUsed-some u is in
    let sound = IsSound-free w in
    let joined = IsSound-join u.block s.free is.whole some sound in
    reblocked w (others u.payload s.used) (join u.block s.free)
    (λ v i. w.used v (IsIn-others u.payload v s.used i).0)
    joined.whole
    (λ a. omega (arith, coverage-others w u.payload u (h, refl) a, coverage-join u.block s.free is.whole some sound a))
    joined.apart

-- a deallocation keeps a state well-formed
pub Deallocates-keeps : {fllen sllen : ℕ} {memory : Range} {s : State} → IsWellFormed fllen sllen memory s → (addr : ℕ) (t : State) → Deallocates s addr t
    → IsWellFormed fllen sllen memory t
Deallocates-keeps {fllen} {sllen} {memory} w addr t step = subst (IsWellFormed fllen sllen memory) (sym step.after) (IsWellFormed-released w step.block step.holds.0)
