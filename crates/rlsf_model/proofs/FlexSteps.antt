-- Each step and each run over a source keeps a state well-formed.
use Rattle.std.proofs.Common.{◌≡◌, ℕ, List, [], ◌∷◌, Option, Some, None, arith, refl, sym, ◌∙◌, subst, inl, inr}
use Rattle.rlsf_base.specs.declared.memory.range.Range.{Range}
use Rattle.rlsf_model_sizes.specs.PowerOfTwo.{IsPowerOfTwo}
use Rattle.rlsf_model_sizes.specs.SizeClass.{IsValid}
use Rattle.rlsf_model.specs.Allocate.{Allocates}
use Rattle.rlsf_model.specs.Answers.{MayAnswerAll}
use Rattle.rlsf_model.specs.FlexAllocate.{Asks, FlexAllocates}
use Rattle.rlsf_model.specs.FlexReallocate.{FlexReallocates}
use Rattle.rlsf_model.specs.FlexState.{FlexState, with_machine}
use Rattle.rlsf_model.specs.FlexWellFormed.{AreHoused, IsFlexWellFormed, IsNewest}
use Rattle.rlsf_model.specs.Growth.{Outcome, refused}
use Rattle.rlsf_model.specs.Laws.{FlexEmptyIsWellFormed, FlexStepsKeepWellFormed, FlexRunsAreSteps, FlexRunsKeepWellFormed}
use Rattle.rlsf_model.specs.Note.{Note}
use Rattle.rlsf_model.specs.Reallocate.{MovesAway}
use Rattle.rlsf_model.specs.Run.{allocate, deallocate, reallocate, fill, trim}
use Rattle.rlsf_model.specs.State.{State, Used}
use Rattle.rlsf_model.specs.Terms.{Terms}
use Rattle.rlsf_model.specs.WellFormed.{IsWellFormed}
use Rattle.rlsf_model.proofs.Allocations.{Allocates-keeps}
use Rattle.rlsf_model.proofs.Chunks.{chunks-allocated, chunks-deallocated, chunks-filled, chunks-reallocated}
use Rattle.rlsf_model.proofs.FlexGrowths.{growth_keeps_well_formed}
use Rattle.rlsf_model.proofs.RangePools.{IsPool-same}
use Rattle.rlsf_model.proofs.Reallocations.{Reallocates-keeps}
use Rattle.rlsf_model.proofs.Releases.{Deallocates-keeps}
use Rattle.rlsf_model.proofs.Trims.{Trims-keeps}
use Rattle.rlsf_model.proofs.Steps.{Fills-keeps, empty_is_well_formed}

pub flex_empty_is_well_formed : FlexEmptyIsWellFormed
flex_empty_is_well_formed fllen sllen memory t rows row_length addressable space = grind (arith, empty_is_well_formed)

module _ {fllen sllen : ℕ} {memory : Range} {t : Terms} {s : FlexState} (w : IsFlexWellFormed fllen sllen memory t s) where
  -- a step that leaves the chunks leaves a well-formed state
  pub with_machine_keeps : (m : State) (u : FlexState) → IsWellFormed fllen sllen memory m → m.chunks ≡ s.machine.chunks → u ≡ with_machine s m
      → IsFlexWellFormed fllen sllen memory t u
  with_machine_keeps m u machine same after = subst (IsFlexWellFormed fllen sllen memory t) (sym after) (record {
    machine = machine;
    space = w.space;
    pools = w.pools;
    housed = subst (AreHoused s.pools) (sym same) w.housed;
    newest = subst (IsNewest t s.kept s.pools) (sym same) w.newest;
    pooled = λ p i. let (len, is) = w.pooled p i in (len, IsPool-same s.machine m p len same is);
  })

  allocated_keeps : (size align addr : ℕ) (m : State) (u : FlexState) → IsPowerOfTwo align → Allocates sllen s.machine size align (Some addr) m → u ≡ with_machine s m
      → IsFlexWellFormed fllen sllen memory t u
  allocated_keeps size align addr m u power step after =
      with_machine_keeps m u (Allocates-keeps w.machine size align (Some addr) m power step) (chunks-allocated sllen s.machine m size align (Some addr) step) after

  moved_keeps : (v : Used) (size to : ℕ) (m : State) (u : FlexState) → IsPowerOfTwo v.align → MovesAway sllen s.machine v size to m → u ≡ with_machine s m
      → IsFlexWellFormed fllen sllen memory t u
  moved_keeps v size to m u power step after =
      let first = Allocates-keeps w.machine size v.align (Some to) step.meanwhile power step.allocated in
      with_machine_keeps m u (Deallocates-keeps first v.payload m step.released)
      (chunks-deallocated step.meanwhile m v.payload step.released ∙ chunks-allocated sllen s.machine step.meanwhile size v.align (Some to) step.allocated) after

module _ {fl_bits sl_bits fllen sllen : ℕ} {memory : Range} {t : Terms} {s : FlexState} (valid : IsValid fl_bits sl_bits fllen sllen)
    (w : IsFlexWellFormed fllen sllen memory t s) (u : FlexState) (notes : List Note) (answers : MayAnswerAll t s.pools notes) where
  -- the state between memory that came and what it came for
  pub asked_keeps : (size align : ℕ) (outcome : Outcome) (m : FlexState) → Asks fllen sllen t s size align outcome notes m → IsFlexWellFormed fllen sllen memory t m
  asked_keeps size align outcome m asks = growth_keeps_well_formed fl_bits sl_bits fllen sllen memory t s m size align outcome notes valid w answers asks.extends

  flex_allocated_keeps : (size align : ℕ) (reply : Option ℕ) → IsPowerOfTwo align → FlexAllocates fllen sllen t s size align reply notes u
      → IsFlexWellFormed fllen sllen memory t u
  flex_allocated_keeps size align None power asks = asked_keeps size align refused u asks
  flex_allocated_keeps size align (Some addr) power (inl room) = allocated_keeps w size align addr room.machine u power room.allocates room.after
  flex_allocated_keeps size align (Some addr) power (inr more) =
      allocated_keeps (asked_keeps size align more.outcome more.meanwhile more.asks) size align addr more.machine u power more.allocates more.after

  flex_reallocated_keeps : (addr size : ℕ) (reply : Option ℕ) → FlexReallocates fllen sllen t s addr size reply notes u → IsFlexWellFormed fllen sllen memory t u
  flex_reallocated_keeps addr size None refuses = asked_keeps size refuses.block.align refused u refuses.asks
  flex_reallocated_keeps addr size (Some to) (inl room) =
      with_machine_keeps w room.machine u (Reallocates-keeps w.machine addr size (Some to) room.machine room.reallocates)
      (chunks-reallocated sllen s.machine room.machine addr size (Some to) room.reallocates) room.after
  flex_reallocated_keeps addr size (Some to) (inr more) =
      moved_keeps (asked_keeps size more.block.align more.outcome more.meanwhile more.asks) more.block size to more.machine u (w.machine.used more.block more.holds.0).power
      more.moves more.after

pub flex_steps_keep_well_formed : FlexStepsKeepWellFormed
flex_steps_keep_well_formed fl_bits sl_bits fllen sllen memory t s u (allocate size align reply) notes valid w step =
    flex_allocated_keeps valid w u notes step.answers size align reply step.may step.leads
flex_steps_keep_well_formed fl_bits sl_bits fllen sllen memory t s u (deallocate addr) notes valid w step =
    let d = step.leads in with_machine_keeps w d.machine u (Deallocates-keeps w.machine addr d.machine d.leads) (chunks-deallocated s.machine d.machine addr d.leads) d.after
flex_steps_keep_well_formed fl_bits sl_bits fllen sllen memory t s u (reallocate addr size reply) notes valid w step =
    flex_reallocated_keeps valid w u notes step.answers addr size reply step.leads
flex_steps_keep_well_formed fl_bits sl_bits fllen sllen memory t s u (trim count) notes valid w step = Trims-keeps w count notes u step.leads
flex_steps_keep_well_formed fl_bits sl_bits fllen sllen memory t s u (fill addr bytes) notes valid w step =
    let d = step.leads in with_machine_keeps w d.machine u (Fills-keeps w.machine addr bytes d.machine d.leads) (chunks-filled s.machine d.machine addr bytes d.leads) d.after
flex_steps_keep_well_formed fl_bits sl_bits fllen sllen memory t s u e notes valid w step = absurd step.leads

pub flex_runs_keep_well_formed : FlexRunsKeepWellFormed
flex_runs_keep_well_formed fl_bits sl_bits fllen sllen memory t s u [] valid w run = subst (IsFlexWellFormed fllen sllen memory t) (sym run) w
flex_runs_keep_well_formed fl_bits sl_bits fllen sllen memory t s u (c ∷ cs) valid w (m, step, rest) =
    flex_runs_keep_well_formed fl_bits sl_bits fllen sllen memory t m u cs valid (flex_steps_keep_well_formed fl_bits sl_bits fllen sllen memory t s m c.event c.notes valid w step)
    rest

pub flex_runs_are_steps : FlexRunsAreSteps
flex_runs_are_steps fl_bits sl_bits fllen sllen memory t s u [] after c valid w (m, step, rest) = record {
  old = s;
  now = m;
  led = refl;
  well_before = w;
  step = step;
  well_after = flex_steps_keep_well_formed fl_bits sl_bits fllen sllen memory t s m c.event c.notes valid w step;
  leads = rest;
}
flex_runs_are_steps fl_bits sl_bits fllen sllen memory t s u (b ∷ before) after c valid w (m, first, rest) =
    let is =
    flex_runs_are_steps fl_bits sl_bits fllen sllen memory t m u before after c valid
    (flex_steps_keep_well_formed fl_bits sl_bits fllen sllen memory t s m b.event b.notes valid w first) rest in
    record {
      old = is.old;
      now = is.now;
      led = (m, first, is.led);
      well_before = is.well_before;
      step = is.step;
      well_after = is.well_after;
      leads = is.leads;
    }
