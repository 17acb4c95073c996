-- Runs over a source whose calls keep to a budget, so that it is never asked.
use Rattle.std.proofs.Common.{◌≡◌, ℕ, ◌≤◌, List, [], ◌∷◌, ◌++◌, length, Option, Some, None, refl, sym, ◌∙◌, ap, subst, inl, inr}
use Rattle.rlsf_base.specs.declared.memory.range.Range.{Range}
use Rattle.rlsf_model_sizes.specs.Sizes.{request_size}
use Rattle.rlsf_model.specs.Allocate.{Allocates}
use Rattle.rlsf_model.specs.Budget.{AreAtMost, AreFronts, AreWithin, HasBudget, IsModest, live_after}
use Rattle.rlsf_model.specs.FlexAllocate.{FlexAllocates}
use Rattle.rlsf_model.specs.FlexReallocate.{FlexReallocates}
use Rattle.rlsf_model.specs.FlexRun.{FlexMayCall, AsksNothing, FlexEvent, FlexLeads, IsFlexRun, events_in, notes_in}
use Rattle.rlsf_model.specs.FlexState.{FlexState}
use Rattle.rlsf_model.specs.Note.{Note}
use Rattle.rlsf_model.specs.State.{State}
use Rattle.rlsf_model.specs.Run.{Event, allocate, deallocate, reallocate, fill, trim, Leads, MayCall, Runs}
use Rattle.rlsf_model.specs.Sizing.{FlexNeverAsked}
use Rattle.rlsf_model.specs.Terms.{Terms}
use Rattle.rlsf_model.specs.WellFormed.{IsWellFormed}
use Rattle.rlsf_model.proofs.Budgets.{AreAligned, AreFronts-kept, IsModest-stays, aligned_none, bounded_runs_are_not_denied, live_is_counted, modest_by, not_denied, step_aligned}
use Rattle.rlsf_model.proofs.Budgets.{step_modest}
use Rattle.rlsf_model.proofs.Steps.{steps_keep_well_formed}

-- ---- one call

module _ (live most : ℕ) {fllen sllen : ℕ} {memory : Range} (t : Terms) (s : FlexState) (w : IsWellFormed fllen sllen memory s.machine) (fronts : List Range)
    (are : AreFronts s.machine.chunks fronts) (small : AreAtMost most s.machine.used) (budget : HasBudget live most sllen fronts) where
  never_full : length s.machine.used ≤ live → (size align : ℕ) → request_size size align ≤ most → Allocates sllen s.machine size align None s.machine → ⊥
  never_full few size align fits full = not_denied live most w fronts are small budget few size align fits s.machine full

  allocates_in_room : (size align : ℕ) (reply : Option ℕ) (notes : List Note) (u : FlexState) → length s.machine.used ≤ live → request_size size align ≤ most
      → FlexAllocates fllen sllen t s size align reply notes u → AsksNothing fllen sllen s (allocate size align reply) notes u
  allocates_in_room size align None notes u few fits asks = absurd (never_full few size align fits asks.full)
  allocates_in_room size align (Some addr) notes u few fits (inl room) = record { machine = room.machine; leads = room.allocates; none = room.none; after = room.after }
  allocates_in_room size align (Some addr) notes u few fits (inr more) = absurd (never_full few size align fits more.asks.full)

  reallocates_in_room : (addr size : ℕ) (reply : Option ℕ) (notes : List Note) (u : FlexState) → IsModest live most s.machine (reallocate addr size reply)
      → FlexReallocates fllen sllen t s addr size reply notes u → AsksNothing fllen sllen s (reallocate addr size reply) notes u
  reallocates_in_room addr size None notes u modest refuses = absurd (never_full modest.0 size refuses.block.align (modest.1 refuses.block refuses.holds) refuses.asks.full)
  reallocates_in_room addr size (Some to) notes u modest (inl room) = record { machine = room.machine; leads = room.reallocates; none = room.none; after = room.after }
  reallocates_in_room addr size (Some to) notes u modest (inr more) = absurd (never_full modest.0 size more.block.align (modest.1 more.block more.holds) more.asks.full)

  asks_nothing : (e : Event) (notes : List Note) (u : FlexState) → IsModest live most s.machine e → FlexLeads fllen sllen t s e notes u → AsksNothing fllen sllen s e notes u
  asks_nothing (allocate size align reply) notes u modest step = allocates_in_room size align reply notes u modest.0 modest.1 step
  asks_nothing (deallocate addr) notes u modest step = step
  asks_nothing (reallocate addr size reply) notes u modest step = reallocates_in_room addr size reply notes u modest step
  asks_nothing (fill addr bytes) notes u modest step = step
  asks_nothing (trim n) notes u modest step = absurd modest
  asks_nothing e notes u modest step = absurd step

-- ---- runs

-- what its caller owes at a call within a budget is what it owes of the reference model alone
may_modest : (live most : ℕ) (memory : Range) (s : State) (e : Event) → IsModest live most s e → FlexMayCall memory s e → MayCall memory s e
may_modest live most memory s (trim n) modest may = absurd modest
may_modest live most memory s e modest may = may

never_asked_from : (live size align n fllen sllen : ℕ) (memory : Range) (t : Terms) (s u : FlexState) (fronts : List Range) (cs : List FlexEvent)
    → IsWellFormed fllen sllen memory s.machine
    → length s.machine.used ≡ n → AreAligned align s.machine.used → AreAtMost (request_size size align) s.machine.used → AreFronts s.machine.chunks fronts
    → HasBudget live (request_size size align) sllen fronts → IsFlexRun fllen sllen memory t s cs u → AreWithin live size align n (events_in cs)
    → (notes_in cs ≡ []) × Runs fllen sllen memory s.machine (events_in cs) u.machine
never_asked_from live size align n fllen sllen memory t s u fronts [] w count low small are budget run within = (refl, ap (λ (x : FlexState). x.machine) run)
never_asked_from live size align n fllen sllen memory t s u fronts (c ∷ cs) w count low small are budget (m, step, rest) (asks, within) =
    let most = request_size size align in
    let e = c.event in
    let modest = modest_by live size align n s.machine e count low asks in
    let may = may_modest live most memory s.machine e modest step.may in
    let nothing = asks_nothing live most t s w fronts are small budget e c.notes m modest step.leads in
    let leads : Leads fllen sllen s.machine e m.machine = subst (λ (x : FlexState). Leads fllen sllen s.machine e x.machine) (sym nothing.after) nothing.leads in
    let later = never_asked_from live size align (live_after e n) fllen sllen memory t m u fronts cs (steps_keep_well_formed fllen sllen memory s.machine m.machine e w may leads)
    (live_is_counted fllen sllen memory s.machine m.machine e w may leads ∙ ap (live_after e) count)
    (step_aligned align live size n fllen sllen s.machine m.machine e asks low leads) (step_modest most w small live m.machine e may modest leads)
    (AreFronts-kept fllen sllen s.machine fronts are m.machine e (IsModest-stays live most s.machine e modest) leads) budget rest within in
    (ap (λ l. l ++ notes_in cs) nothing.none ∙ later.0, (m.machine, may, leads, later.1))

pub flex_never_asked : FlexNeverAsked
flex_never_asked live size align fllen sllen memory t s u fronts cs w idle are budget run within =
    let most = request_size size align in
    let (silent, runs) = never_asked_from live size align 0 fllen sllen memory t s u fronts cs w (ap length idle) (aligned_none align s.machine.used idle)
    (subst (AreAtMost most) (sym idle) (λ x i. absurd i)) are budget run within in
    (silent, runs, bounded_runs_are_not_denied live size align fllen sllen memory s.machine u.machine fronts (events_in cs) w idle are budget runs within)
