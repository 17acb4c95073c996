-- What a step makes of the used blocks.
use Rattle.std.proofs.Common.{◌≡◌, ◌≢◌, ℕ, List, ◌∷◌, Option, Some, None, refl, sym, ◌∙◌, ap, subst, inl, inr}
use Rattle.rlsf_model.specs.Allocate.{placed, Allocates}
use Rattle.rlsf_model.specs.Laws.{CallReturns}
use Rattle.rlsf_model.specs.Lists.{IsIn}
use Rattle.rlsf_model.specs.Reallocate.{Plan, plan, ReallocatesBy}
use Rattle.rlsf_model.specs.Run.{Event, insert, append, allocate, deallocate, reallocate, fill, remove, trim, CallNames, Leads}
use Rattle.rlsf_model.specs.State.{State, Used, Holds, others}
use Rattle.rlsf_model.proofs.Changes.{IsIn-others, IsIn-others_from}
use Rattle.rlsf_model.proofs.Chunks.{used-inserted, used-appended}
use Rattle.rlsf_model.proofs.Fillings.{IsIn-filled_other, IsIn-filled_other_from}
use Rattle.rlsf_model.proofs.Names.{moved, filled_at}

-- the alignment of a block that a call makes: the requested one, or that of a block that there was
abbrev pub IsGivenAlign : List Used → Event → ℕ → Type 0
IsGivenAlign first (allocate size align reply) n = n ≡ align
IsGivenAlign first (reallocate addr size reply) n = (u : Used) × IsIn u first × (n ≡ u.align)
IsGivenAlign first e n = ⊥

-- Used blocks after a call: those before; one more, at the returned address; those except for one that is named; these with other bytes in
-- one that is named; or what comes of two such changes
pub data Goes (first : List Used) (e : Event) : List Used → List Used → Type 0 where
  as_before : {before after : List Used} → after ≡ before → Goes first e before after
  one_more : {before after : List Used} (v : Used) → CallReturns e v.payload → IsGivenAlign first e v.align → after ≡ v ∷ before → Goes first e before after
  one_less : {before after : List Used} (a : ℕ) → CallNames e a → after ≡ others a before → Goes first e before after
  one_filled : {before after : List Used} (a : ℕ) (bytes : List ℕ) → CallNames e a → after ≡ filled_at a bytes before → Goes first e before after
  in_turn : {before after : List Used} (between : List Used) → Goes first e before between → Goes first e between after → Goes first e before after

-- ---- each step does so

allocate_goes : (sllen : ℕ) (s t : State) (size align : ℕ) (reply : Option ℕ) → Allocates sllen s size align reply t
    → Goes s.used (allocate size align reply) s.used t.used
allocate_goes sllen s t size align None step = as_before (ap (λ x. x.used) step.1)
allocate_goes sllen s t size align (Some addr) step = one_more (placed step.range size align step.bytes) (ap Some step.answer) refl (ap (λ x. x.used) step.after)

-- a block gets another size, by a plan or elsewhere
pub reallocate_goes : (sllen : ℕ) (s t : State) (addr size : ℕ) (u : Used) → Holds s addr u → (o : Option Plan) (reply : Option ℕ) → ReallocatesBy sllen s u size o reply t
    → Goes s.used (reallocate addr size reply) s.used t.used
reallocate_goes sllen s t addr size u held (Some p) None step = absurd step
reallocate_goes sllen s t addr size u held (Some p) (Some to) step =
    in_turn (others u.payload s.used) (one_less u.payload (sym held.1) refl) (one_more (moved u p step.bytes) (ap Some step.answer) (u, held.0, refl) (ap (λ x. x.used) step.after))
reallocate_goes sllen s t addr size u held None None step = as_before (ap (λ x. x.used) step.1)
reallocate_goes sllen s t addr size u held None (Some to) step =
    let first = step.allocated in
    in_turn step.meanwhile.used (one_more (placed first.range size u.align first.bytes) (ap Some first.answer) (u, held.0, refl) (ap (λ x. x.used) first.after))
    (one_less step.released.block.payload (sym held.1 ∙ sym step.released.holds.1) (ap (λ x. x.used) step.released.after))

pub step_goes : (fllen sllen : ℕ) (s t : State) (e : Event) → Leads fllen sllen s e t → Goes s.used e s.used t.used
step_goes fllen sllen s t (insert r reply) step = as_before (used-inserted fllen s t r reply step)
step_goes fllen sllen s t (append r reply) step = as_before (used-appended fllen s t r reply step)
step_goes fllen sllen s t (allocate size align reply) step = allocate_goes sllen s t size align reply step
step_goes fllen sllen s t (deallocate addr) step = one_less step.block.payload (sym step.holds.1) (ap (λ x. x.used) step.after)
step_goes fllen sllen s t (reallocate addr size reply) step = reallocate_goes sllen s t addr size step.block step.holds (plan s step.block size) reply step.step
step_goes fllen sllen s t (fill addr bytes) step = one_filled addr bytes refl (ap (λ x. x.used) step.after)
step_goes fllen sllen s t (remove r) step = as_before (ap (λ x. x.used) step)
step_goes fllen sllen s t (trim count) step = absurd step

-- ---- blocks that a call doesn't name

-- it isn't at an address that the call names
is_apart : (e : Event) (u : Used) → (CallNames e u.payload → ⊥) → (a : ℕ) → CallNames e a → u.payload ≢ a
is_apart e u apart a names at = apart (subst (CallNames e) (sym at) names)

module _ {first : List Used} {e : Event} (u : Used) (apart : CallNames e u.payload → ⊥) where
  pub stays : {before after : List Used} → Goes first e before after → IsIn u before → IsIn u after
  stays (as_before is) i = subst (IsIn u) (sym is) i
  stays (one_more v returns align is) i = subst (IsIn u) (sym is) (inr i)
  stays {before} (one_less a names is) i = subst (IsIn u) (sym is) (IsIn-others_from a u before i (is_apart e u apart a names))
  stays {before} (one_filled a bytes names is) i = subst (IsIn u) (sym is) (IsIn-filled_other a bytes u before i (is_apart e u apart a names))
  stays (in_turn between x y) i = stays y (stays x i)

  pub was : (CallReturns e u.payload → ⊥) → {before after : List Used} → Goes first e before after → IsIn u after → IsIn u before
  was new (as_before is) i = subst (IsIn u) is i
  was new (one_more v returns align is) i = elim (subst (IsIn u) is i) [
    | inl at ↦ absurd (new (subst (λ x. CallReturns e x.payload) (sym at) returns))
    | inr j ↦ j
  ]
  was new {before} (one_less a names is) i = (IsIn-others a u before (subst (IsIn u) is i)).0
  was new {before} (one_filled a bytes names is) i = IsIn-filled_other_from a bytes u before (subst (IsIn u) is i) (is_apart e u apart a names)
  was new (in_turn between x y) i = was new x (was new y i)
