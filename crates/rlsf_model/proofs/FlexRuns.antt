-- A run over a source is one of the reference model alone.
use Rattle.std.proofs.Common.{◌≡◌, ℕ, true, map, List, [], ◌∷◌, ◌++◌, Option, Some, None, refl, sym, ◌∙◌, ap, subst, inl, inr}
use Rattle.rlsf_base.specs.declared.memory.range.Range.{Range}
use Rattle.rlsf_model_sizes.specs.PowerOfTwo.{IsPowerOfTwo}
use Rattle.rlsf_model_sizes.specs.SizeClass.{IsValid}
use Rattle.rlsf_model.specs.Answers.{MayAnswerAll}
use Rattle.rlsf_model.specs.FlexAllocate.{Asks, FlexAllocates}
use Rattle.rlsf_model.specs.FlexReallocate.{FlexReallocates}
use Rattle.rlsf_model.specs.FlexRun.{ComesTo, HandsIn, IsFlexStep}
use Rattle.rlsf_model.specs.FlexState.{FlexState, with_machine}
use Rattle.rlsf_model.specs.FlexWellFormed.{IsFlexWellFormed}
use Rattle.rlsf_model.specs.Growth.{Outcome, is_more}
use Rattle.rlsf_model.specs.Laws.{FlexRunsAreRuns}
use Rattle.rlsf_model.specs.Note.{Note}
use Rattle.rlsf_model.specs.Release.{Deallocates}
use Rattle.rlsf_model.specs.Run.{Event, insert, append, allocate, deallocate, reallocate, fill, remove, trim, Leads, MayCall, Runs}
use Rattle.rlsf_model.specs.State.{State}
use Rattle.rlsf_model.specs.Terms.{Terms}
use Rattle.rlsf_model.specs.Trim.{Trims}
use Rattle.rlsf_model.proofs.FlexGrowths.{taken_handed_in}
use Rattle.rlsf_model.proofs.Trims.{AreRemovals, IsOver, IsOver-flex, Runs-all_removed}
use Rattle.rlsf_model.proofs.FlexSteps.{flex_steps_keep_well_formed}

-- where a run leads, another goes on
pub Runs-append : (fllen sllen : ℕ) (memory : Range) (s t u : State) (es fs : List Event) → Runs fllen sllen memory s es t → Runs fllen sllen memory t fs u
    → Runs fllen sllen memory s (es ++ fs) u
Runs-append fllen sllen memory s t u [] fs first second = subst (λ x. Runs fllen sllen memory x fs u) first second
Runs-append fllen sllen memory s t u (e ∷ es) fs (m, may, step, rest) second = (m, may, step, Runs-append fllen sllen memory m t u es fs rest second)

-- the calls of the reference model alone that a call over a source consists of lead from one state to another
abbrev pub IsDone : ℕ → ℕ → Range → State → Event → State → Type 0
IsDone fllen sllen memory s e t = (es : List Event) × ComesTo e es × Runs fllen sllen memory s es t

module _ {fllen sllen : ℕ} {memory : Range} where
  done_at : (s : State) (e : Event) (m u : FlexState) → u ≡ m → IsDone fllen sllen memory s e m.machine → IsDone fllen sllen memory s e u.machine
  done_at s e m u after = subst (λ (x : FlexState). IsDone fllen sllen memory s e x.machine) (sym after)

  -- the call itself is made
  done_itself : (s : State) (e : Event) (m : State) → ComesTo e (e ∷ []) → MayCall memory s e → Leads fllen sllen s e m → IsDone fllen sllen memory s e m
  done_itself s e m comes may step = (e ∷ [], comes, (m, may, step, refl))

  -- no call is made for one that is refused
  done_refused : (s m : State) (e : Event) → ComesTo e [] → m ≡ s → IsDone fllen sllen memory s e m
  done_refused s m e refuses same = ([], refuses, same)

module _ {fl_bits sl_bits fllen sllen : ℕ} {memory : Range} {t : Terms} {s : FlexState} (valid : IsValid fl_bits sl_bits fllen sllen)
    (w : IsFlexWellFormed fllen sllen memory t s) (u : FlexState) (notes : List Note) (answers : MayAnswerAll t s.pools notes) where
  -- what came for an allocation is inserted
  asked_handed_in : (size align : ℕ) (outcome : Outcome) (m : FlexState) → is_more outcome ≡ true → Asks fllen sllen t s size align outcome notes m
      → (h : Event) × HandsIn h × MayCall memory s.machine h × Leads fllen sllen s.machine h m.machine
  asked_handed_in size align outcome m more asks =
      taken_handed_in w fl_bits sl_bits size align valid outcome m asks.extends.possible (subst (MayAnswerAll t s.pools) asks.extends.asked answers) asks.extends.after more

  allocated_done : (size align : ℕ) (reply : Option ℕ) → IsPowerOfTwo align → FlexAllocates fllen sllen t s size align reply notes u
      → IsDone fllen sllen memory s.machine (allocate size align reply) u.machine
  allocated_done size align None power asks = done_refused s.machine u.machine (allocate size align None) refl (ap (λ (x : FlexState). x.machine) asks.extends.after)
  allocated_done size align (Some addr) power (inl room) =
      done_at s.machine (allocate size align (Some addr)) (with_machine s room.machine) u room.after
      (done_itself s.machine (allocate size align (Some addr)) room.machine refl power room.allocates)
  allocated_done size align (Some addr) power (inr more) =
      let m = more.meanwhile in
      let e = allocate size align (Some addr) in
      let (h, hands, may, step) = asked_handed_in size align more.outcome m more.more more.asks in
      done_at s.machine e (with_machine m more.machine) u more.after (h ∷ e ∷ [], (hands, refl), (m.machine, may, step, (more.machine, power, more.allocates, refl)))

  reallocated_done : (addr size : ℕ) (reply : Option ℕ) → FlexReallocates fllen sllen t s addr size reply notes u
      → IsDone fllen sllen memory s.machine (reallocate addr size reply) u.machine
  reallocated_done addr size None refuses = done_refused s.machine u.machine (reallocate addr size None) refl (ap (λ (x : FlexState). x.machine) refuses.asks.extends.after)
  reallocated_done addr size (Some to) (inl room) =
      let step = room.reallocates in
      done_at s.machine (reallocate addr size (Some to)) (with_machine s room.machine) u room.after
      (done_itself s.machine (reallocate addr size (Some to)) room.machine refl (step.block, step.holds) step)
  reallocated_done addr size (Some to) (inr more) =
      let m = more.meanwhile in
      let v = more.block in
      let (h, hands, may, step) = asked_handed_in size v.align more.outcome m more.more more.asks in
      let gone = subst (λ a. Deallocates more.moves.meanwhile a more.machine) more.holds.1 more.moves.released in
      done_at s.machine (reallocate addr size (Some to)) (with_machine m more.machine) u more.after (
        h ∷ allocate size v.align (Some to) ∷ deallocate addr ∷ [],
        (hands, (v.align, refl), refl),
        (m.machine, may, step, (more.moves.meanwhile, (w.machine.used v more.holds.0).power, more.moves.allocated, (more.machine, (gone.block, gone.holds), gone, refl))),
      )

-- a trim is done by removals
trimmed_done : {fllen sllen : ℕ} {memory : Range} {t : Terms} {s : FlexState} (w : IsFlexWellFormed fllen sllen memory t s) (u : FlexState) (notes : List Note) (count : ℕ)
    → Trims t s count notes u
    → IsDone fllen sllen memory s.machine (trim count) u.machine
trimmed_done w u notes count (inr (_, none, _, same)) = ([], (sym none, λ e i. absurd i), ap (λ (x : FlexState). x.machine) same)
trimmed_done {fllen} {sllen} {memory} {t} {s} w u notes count (inl (takes, g)) =
    let (long, all) = AreRemovals g.gone in (
      map remove g.gone,
      (long ∙ sym g.counted, all),
      subst (Runs fllen sllen memory s.machine (map remove g.gone)) (sym g.machine)
          (Runs-all_removed g.gone g.left s.machine (subst (IsOver fllen sllen memory t.space s.machine) g.split (IsOver-flex w)) g.idle),
    )

-- a step over a source is a run of the calls that it consists of
step_done : (fl_bits sl_bits fllen sllen : ℕ) (memory : Range) (t : Terms) (s u : FlexState) (e : Event) (notes : List Note) → IsValid fl_bits sl_bits fllen sllen
    → IsFlexWellFormed fllen sllen memory t s
    → IsFlexStep fllen sllen memory t s e notes u → IsDone fllen sllen memory s.machine e u.machine
step_done fl_bits sl_bits fllen sllen memory t s u (insert r reply) notes valid w step = absurd step.leads
step_done fl_bits sl_bits fllen sllen memory t s u (append r reply) notes valid w step = absurd step.leads
step_done fl_bits sl_bits fllen sllen memory t s u (remove r) notes valid w step = absurd step.leads
step_done fl_bits sl_bits fllen sllen memory t s u (trim count) notes valid w step = trimmed_done w u notes count step.leads
step_done fl_bits sl_bits fllen sllen memory t s u (allocate size align reply) notes valid w step = allocated_done valid w u notes step.answers size align reply step.may step.leads
step_done fl_bits sl_bits fllen sllen memory t s u (deallocate addr) notes valid w step =
    let d = step.leads in done_at s.machine (deallocate addr) (with_machine s d.machine) u d.after (done_itself s.machine (deallocate addr) d.machine refl step.may d.leads)
step_done fl_bits sl_bits fllen sllen memory t s u (reallocate addr size reply) notes valid w step = reallocated_done valid w u notes step.answers addr size reply step.leads
step_done fl_bits sl_bits fllen sllen memory t s u (fill addr bytes) notes valid w step =
    let d = step.leads in done_at s.machine (fill addr bytes) (with_machine s d.machine) u d.after (done_itself s.machine (fill addr bytes) d.machine refl step.may d.leads)

pub flex_runs_are_runs : FlexRunsAreRuns
flex_runs_are_runs fl_bits sl_bits fllen sllen memory t s u [] valid w run = ([], refl, ap (λ (x : FlexState). x.machine) run)
flex_runs_are_runs fl_bits sl_bits fllen sllen memory t s u (c ∷ cs) valid w (m, step, rest) =
    let (es, come, first) = step_done fl_bits sl_bits fllen sllen memory t s m c.event c.notes valid w step in
    let whole = flex_steps_keep_well_formed fl_bits sl_bits fllen sllen memory t s m c.event c.notes valid w step in
    let (fs, all, second) = flex_runs_are_runs fl_bits sl_bits fllen sllen memory t m u cs valid whole rest in
    (es ++ fs, (es, fs, refl, come, all), Runs-append fllen sllen memory s.machine m.machine u.machine es fs first second)
