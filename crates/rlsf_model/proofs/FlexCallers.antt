-- What callers see of the reference model that asks a source for memory: a map from addresses to payloads too.
use Rattle.std.proofs.Common.{◌≡◌, ◌≢◌, ℕ, ◌+◌, ◌≤◌, cond, not, List, ◌∷◌, Some, None, arith, refl, sym, ◌∙◌, ap}
use Rattle.std.proofs.Common.{subst, inl, inr}
use Rattle.std.proofs.lemmas.Bool.{ne_eqb}
use Rattle.rlsf_base.specs.declared.memory.range.Range.{Range}
use Rattle.rlsf_model.specs.Allocate.{Places, placed}
use Rattle.rlsf_model.specs.Callers.{payload_at, IsResizedInMap}
use Rattle.rlsf_model.specs.FlexRun.{FlexLeads}
use Rattle.rlsf_model.specs.FlexState.{FlexState, with_machine}
use Rattle.rlsf_model.specs.Laws.{FlexCallersSeeMap}
use Rattle.rlsf_model.specs.Lists.{IsIn}
use Rattle.rlsf_model.specs.Note.{Note}
use Rattle.rlsf_model.specs.Payload.{payload_of}
use Rattle.rlsf_model.specs.Reallocate.{Keeps, MovesAway, Reallocates}
use Rattle.rlsf_model.specs.Run.{Event, insert, append, allocate, deallocate, reallocate, fill, remove, trim, Leads}
use Rattle.rlsf_model.specs.State.{State, Used, Holds, others}
use Rattle.rlsf_model.specs.Terms.{Terms}
use Rattle.rlsf_model.specs.WellFormed.{IsWellFormed}
pub use Rattle.rlsf_model.proofs.Callers.{first_alone}
use Rattle.rlsf_model.proofs.Callers.{callers_see_map, payload_at-held, payload_at-none, payload_at-unnamed, placed_changes}
use Rattle.rlsf_model.proofs.Changes.{Holds-unique, IsIn-others, IsIn-others_from}
use Rattle.rlsf_model.proofs.Growths.{Holds-same, used-taken}
use Rattle.rlsf_model.proofs.UsedBlocks.{Goes, as_before, reallocate_goes, step_goes}
use Rattle.rlsf_model.proofs.Payloads.{payload_of-after, block_length-le, block_length-lt}
use Rattle.rlsf_model.proofs.Trims.{used-trimmed}
use Rattle.rlsf_model.proofs.Names.{payload_in}

-- a step over a source makes such changes of the used blocks, too
module _ (fllen sllen : ℕ) (t : Terms) (s u : FlexState) where
  -- in the same state but for its ranges
  goes_at : (e : Event) (m : FlexState) (x : State) → m.machine.used ≡ s.machine.used → u ≡ with_machine m x → Goes m.machine.used e m.machine.used x.used
      → Goes s.machine.used e s.machine.used u.machine.used
  goes_at e m x same after goes =
      subst (λ (y : FlexState). Goes s.machine.used e s.machine.used y.machine.used) (sym after) (subst (λ l. Goes l e l x.used) same goes)

  pub flex_step_goes : (e : Event) (notes : List Note) → FlexLeads fllen sllen t s e notes u → Goes s.machine.used e s.machine.used u.machine.used
  flex_step_goes (allocate size align None) notes step = as_before (ap (λ (x : FlexState). x.machine.used) step.extends.after)
  flex_step_goes (allocate size align (Some addr)) notes (inl room) =
      goes_at (allocate size align (Some addr)) s room.machine refl room.after (step_goes fllen sllen s.machine room.machine (allocate size align (Some addr)) room.allocates)
  flex_step_goes (allocate size align (Some addr)) notes (inr more) =
      let m = more.meanwhile in
      goes_at (allocate size align (Some addr)) m more.machine (used-taken fllen t s m more.outcome more.asks.extends.after) more.after
      (step_goes fllen sllen m.machine more.machine (allocate size align (Some addr)) more.allocates)
  flex_step_goes (deallocate addr) notes step =
      goes_at (deallocate addr) s step.machine refl step.after (step_goes fllen sllen s.machine step.machine (deallocate addr) step.leads)
  flex_step_goes (reallocate addr size None) notes step = as_before (ap (λ (x : FlexState). x.machine.used) step.asks.extends.after)
  flex_step_goes (reallocate addr size (Some to)) notes (inl room) =
      goes_at (reallocate addr size (Some to)) s room.machine refl room.after
      (step_goes fllen sllen s.machine room.machine (reallocate addr size (Some to)) room.reallocates)
  flex_step_goes (reallocate addr size (Some to)) notes (inr more) =
      let m = more.meanwhile in
      let is = used-taken fllen t s m more.outcome more.asks.extends.after in
      goes_at (reallocate addr size (Some to)) m more.machine is more.after
      (reallocate_goes sllen m.machine more.machine addr size more.block (Holds-same s.machine m.machine addr more.block is more.holds) None (Some to) more.moves)
  flex_step_goes (fill addr bytes) notes step =
      goes_at (fill addr bytes) s step.machine refl step.after (step_goes fllen sllen s.machine step.machine (fill addr bytes) step.leads)
  flex_step_goes (trim count) notes step = as_before (used-trimmed t s u count notes step)
  flex_step_goes e notes step = absurd step

module _ {fllen sllen : ℕ} {before after : Range} {s t : State} (w : IsWellFormed fllen sllen before s) (w' : IsWellFormed fllen sllen after t) where
  -- a payload that moves away, seen from a well-formed state after it
  moved_changes : (m : State) (u : Used) (addr size to : ℕ) → IsIn u s.used → u.payload ≡ addr → payload_at s addr ≡ Some (payload_in u) → m.used ≡ s.used
      → to ≢ addr → MovesAway sllen m u size to t
      → IsResizedInMap (payload_at s) addr size to (payload_at t)
  moved_changes m u addr size to held_in at was same elsewhere step = record {
    old = payload_in u;
    was = was;
    now = payload_in b;
    serves = record {
      aligned = refl;
      enough = omega (arith, first.length, first.answer, after_start, block_length-le first.range.start b.payload size);
      few = omega (arith, first.length, first.answer, after_start, block_length-lt first.range.start b.payload size);
    };
    kept = subst (λ (x : Used). Keeps u.bytes x.bytes) is_new step.kept;
    new =
        λ other. payload_at-none s to
        (λ v (i, v_at). first_alone w' b v (others addr s.used) is (IsIn-others_from addr v s.used i (λ here. elsewhere (sym v_at ∙ here))) (v_at ∙ first.answer));
    here = payload_at-held w' to b (subst (IsIn b) (sym is) (inl refl), sym first.answer);
    left = λ other. payload_at-none t addr gone;
    others = unnamed;
  }
    where
      first : Places sllen m size u.align to step.meanwhile
      first = step.allocated

      b : Used
      b = placed first.range size u.align first.bytes

      after_start : first.range.start + 16 ≤ payload_of first.range.start u.align
      after_start = payload_of-after first.range.start u.align

      is_meanwhile : step.meanwhile.used ≡ b ∷ s.used
      is_meanwhile = ap (λ (x : State). x.used) first.after ∙ ap (λ l. b ∷ l) same

      is_others : t.used ≡ others addr (b ∷ s.used)
      is_others = ap (λ (x : State). x.used) step.released.after ∙ ap (λ a. others a step.meanwhile.used) (step.released.holds.1 ∙ at) ∙ ap (others addr) is_meanwhile

      is : t.used ≡ b ∷ others addr s.used
      is = is_others ∙ ap (λ x. cond (not x) (b ∷ others addr s.used) (others addr s.used)) (ne_eqb b.payload addr (λ here. elsewhere (first.answer ∙ here)))

      is_new : step.block ≡ b
      is_new = Holds-unique w' to step.block b (
        subst (IsIn step.block) (sym is_others)
            (IsIn-others_from addr step.block (b ∷ s.used) (subst (IsIn step.block) is_meanwhile step.holds.0) (λ here. elsewhere (sym step.holds.1 ∙ here))),
        step.holds.1,
      )
          (subst (IsIn b) (sym is) (inl refl), sym first.answer)

      gone : (v : Used) → Holds t addr v → ⊥
      gone v (i, v_at) = (IsIn-others addr v (b ∷ s.used) (subst (IsIn v) is_others i)).1 v_at

      goes : Goes s.used (reallocate addr size (Some to)) s.used t.used
      goes = subst (λ l. Goes l (reallocate addr size (Some to)) l t.used) same
          (reallocate_goes sllen m t addr size u (subst (IsIn u) (sym same) held_in, at) None (Some to) step)

      unnamed : (a : ℕ) → a ≢ addr → a ≢ to → payload_at t a ≡ payload_at s a
      unnamed a other new =
          payload_at-unnamed w w' (reallocate addr size (Some to)) goes a (λ names. other (sym names)) (λ gives. let here : to ≡ a = cc in new (sym here))

pub flex_callers_see_map : FlexCallersSeeMap
flex_callers_see_map fllen sllen terms before after s u (insert r reply) notes w w' may step = absurd step
flex_callers_see_map fllen sllen terms before after s u (append r reply) notes w w' may step = absurd step
flex_callers_see_map fllen sllen terms before after s u (remove r) notes w w' may step = absurd step
flex_callers_see_map fllen sllen terms before after s u (trim count) notes w w' may step =
    λ a. payload_at-unnamed w w' (trim count) (flex_step_goes fllen sllen terms s u (trim count) notes step) a (λ bad. bad) (λ bad. bad)
flex_callers_see_map fllen sllen terms before after s u (allocate size align None) notes w w' may step = λ a. ap (λ (x : FlexState). payload_at x.machine a) step.extends.after
flex_callers_see_map fllen sllen terms before after s u (allocate size align (Some addr)) notes w w' may (inl room) =
    placed_changes w w' s.machine refl size align addr (subst (λ (x : FlexState). Places sllen s.machine size align addr x.machine) (sym room.after) room.allocates)
flex_callers_see_map fllen sllen terms before after s u (allocate size align (Some addr)) notes w w' may (inr more) =
    placed_changes w w' more.meanwhile.machine (used-taken fllen terms s more.meanwhile more.outcome more.asks.extends.after) size align addr
    (subst (λ (x : FlexState). Places sllen more.meanwhile.machine size align addr x.machine) (sym more.after) more.allocates)
flex_callers_see_map fllen sllen terms before after s u (deallocate addr) notes w w' may step =
    callers_see_map fllen sllen before s.machine u.machine (deallocate addr) w may
    (subst (λ (x : FlexState). Leads fllen sllen s.machine (deallocate addr) x.machine) (sym step.after) step.leads)
flex_callers_see_map fllen sllen terms before after s u (reallocate addr size None) notes w w' may step =
    λ a. ap (λ (x : FlexState). payload_at x.machine a) step.asks.extends.after
flex_callers_see_map fllen sllen terms before after s u (reallocate addr size (Some to)) notes w w' may (inl room) =
    callers_see_map fllen sllen before s.machine u.machine (reallocate addr size (Some to)) w may
    (subst (λ (x : FlexState). Reallocates sllen s.machine addr size (Some to) x.machine) (sym room.after) room.reallocates)
flex_callers_see_map fllen sllen terms before after s u (reallocate addr size (Some to)) notes w w' may (inr more) =
    let m = more.meanwhile in
    let (is_used, at) = more.holds in
    moved_changes w w' m.machine more.block addr size to is_used at (payload_at-held w addr more.block more.holds)
    (used-taken fllen terms s m more.outcome more.asks.extends.after) more.elsewhere
    (subst (λ (x : FlexState). MovesAway sllen m.machine more.block size to x.machine) (sym more.after) more.moves)
flex_callers_see_map fllen sllen terms before after s u (fill addr bytes) notes w w' may step =
    callers_see_map fllen sllen before s.machine u.machine (fill addr bytes) w may
    (subst (λ (x : FlexState). Leads fllen sllen s.machine (fill addr bytes) x.machine) (sym step.after) step.leads)
