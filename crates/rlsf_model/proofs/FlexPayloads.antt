-- What steps over a source leave of payloads.
use Rattle.std.proofs.Common.{◌≡◌, ℕ, [], ◌∷◌, Some, None, arith, refl, sym, ◌∙◌, ap, subst, inl, inr}
use Rattle.std.proofs.lemmas.Option.{same_Some}
use Rattle.rlsf_base.specs.declared.memory.range.Range.{Range}
use Rattle.rlsf_model.specs.Callers.{Payload, ServesLayout, payload_at}
use Rattle.rlsf_model.specs.FlexState.{FlexState}
use Rattle.rlsf_model.specs.Laws.{FlexStepsChangeMap, FlexRunsChangeMap, FlexPayloadsAreApart, FlexAllocationHasSize, FlexReallocationHasSize, FlexReallocationKeepsBytes}
use Rattle.rlsf_model.specs.Laws.{FlexOtherPayloadsStay, FlexOthersStayInRuns, FlexUsedWasUsed, FlexUsedWasUsedInRuns, HasSize}
use Rattle.rlsf_model.specs.Lists.{IsIn}
use Rattle.rlsf_model.specs.Reallocate.{Keeps}
use Rattle.rlsf_model.specs.Run.{allocate, reallocate}
use Rattle.rlsf_model.specs.State.{State}
use Rattle.rlsf_model.specs.WellFormed.{IsWellFormed}
use Rattle.rlsf_model.proofs.Callers.{payload_at-has, payload_at-held}
use Rattle.rlsf_model.proofs.FlexCallers.{flex_callers_see_map, flex_step_goes}
use Rattle.rlsf_model.proofs.FlexSteps.{flex_steps_keep_well_formed, flex_runs_keep_well_formed}
use Rattle.rlsf_model.proofs.Live.{live_addresses_are_aligned, live_address_has_one_block, payloads_are_disjoint, payload_lies_in_one_chunk}
use Rattle.rlsf_model.proofs.UsedBlocks.{stays, was}
use Rattle.rlsf_model.proofs.Names.{payload_in}

pub flex_steps_change_map : FlexStepsChangeMap
flex_steps_change_map fl_bits sl_bits fllen sllen memory t s u e notes valid w step =
    flex_callers_see_map fllen sllen t memory memory s u e notes w.machine (flex_steps_keep_well_formed fl_bits sl_bits fllen sllen memory t s u e notes valid w step).machine
    step.may step.leads

pub flex_runs_change_map : FlexRunsChangeMap
flex_runs_change_map fl_bits sl_bits fllen sllen memory t s u [] valid w run = λ a. ap (λ (y : FlexState). payload_at y.machine a) run
flex_runs_change_map fl_bits sl_bits fllen sllen memory t s u (c ∷ cs) valid w (m, step, rest) = (
  payload_at m.machine,
  flex_steps_change_map fl_bits sl_bits fllen sllen memory t s m c.event c.notes valid w step,
  flex_runs_change_map fl_bits sl_bits fllen sllen memory t m u cs valid (flex_steps_keep_well_formed fl_bits sl_bits fllen sllen memory t s m c.event c.notes valid w step) rest,
)

pub flex_payloads_are_apart : FlexPayloadsAreApart
flex_payloads_are_apart fl_bits sl_bits fllen sllen memory t s u cs valid w run =
    let whole = (flex_runs_keep_well_formed fl_bits sl_bits fllen sllen memory t s u cs valid w run).machine in
    record {
      aligned = λ addr align. live_addresses_are_aligned fllen sllen memory u.machine addr align whole;
      one_block = λ addr x. live_address_has_one_block fllen sllen memory u.machine addr x whole;
      disjoint = λ x y a. payloads_are_disjoint fllen sllen memory u.machine x y a whole;
      in_one_chunk = λ x. payload_lies_in_one_chunk fllen sllen memory u.machine x whole;
    }

-- ---- sizes and bytes

-- the used block of a payload that serves a layout
HasSize-serves : {fllen sllen : ℕ} {memory : Range} {m : State} → IsWellFormed fllen sllen memory m → (size align addr : ℕ) (p : Payload) → payload_at m addr ≡ Some p
    → ServesLayout size align p → HasSize m size addr
HasSize-serves {m = m} w size align addr p told serves = grind (arith, payload_at-has)

pub flex_allocation_has_size : FlexAllocationHasSize
flex_allocation_has_size fl_bits sl_bits fllen sllen memory t s u size align None notes valid w step = tt
flex_allocation_has_size fl_bits sl_bits fllen sllen memory t s u size align (Some addr) notes valid w step =
    let (p, fresh, serves, set) = flex_steps_change_map fl_bits sl_bits fllen sllen memory t s u (allocate size align (Some addr)) notes valid w step in
    HasSize-serves (flex_steps_keep_well_formed fl_bits sl_bits fllen sllen memory t s u (allocate size align (Some addr)) notes valid w step).machine size align addr p set.here
    serves

pub flex_reallocation_has_size : FlexReallocationHasSize
flex_reallocation_has_size fl_bits sl_bits fllen sllen memory t s u addr size None notes valid w step = tt
flex_reallocation_has_size fl_bits sl_bits fllen sllen memory t s u addr size (Some to) notes valid w step =
    let r = flex_steps_change_map fl_bits sl_bits fllen sllen memory t s u (reallocate addr size (Some to)) notes valid w step in
    HasSize-serves (flex_steps_keep_well_formed fl_bits sl_bits fllen sllen memory t s u (reallocate addr size (Some to)) notes valid w step).machine size r.old.align to r.now
    r.here r.serves

pub flex_reallocation_keeps_bytes : FlexReallocationKeepsBytes
flex_reallocation_keeps_bytes fl_bits sl_bits fllen sllen memory t s u addr size to notes x valid w step holds =
    let r = flex_steps_change_map fl_bits sl_bits fllen sllen memory t s u (reallocate addr size (Some to)) notes valid w step in
    let (v, now, is) = payload_at-has u.machine to r.now r.here in
    let old = same_Some (payload_in x) r.old (sym (payload_at-held w.machine addr x holds) ∙ r.was) in (
      v,
      now,
      ap (λ (q : Payload). q.align) is ∙ r.serves.aligned ∙ ap (λ (q : Payload). q.align) (sym old),
      subst (λ (q : Payload). Keeps x.bytes q.bytes) (sym is) (subst (λ (q : Payload). Keeps q.bytes r.now.bytes) (sym old) r.kept),
    )

-- ---- payloads that a step doesn't name

pub flex_other_payloads_stay : FlexOtherPayloadsStay
flex_other_payloads_stay fllen sllen t s u e notes x step i apart = stays x apart (flex_step_goes fllen sllen t s u e notes step) i

pub flex_used_was_used : FlexUsedWasUsed
flex_used_was_used fllen sllen t s u e notes x step i other new = was x other new (flex_step_goes fllen sllen t s u e notes step) i

-- ---- and a run

pub flex_others_stay_in_runs : FlexOthersStayInRuns
flex_others_stay_in_runs fllen sllen memory t s u [] x run i apart = subst (λ (y : FlexState). IsIn x y.machine.used) (sym run) i
flex_others_stay_in_runs fllen sllen memory t s u (c ∷ cs) x (m, step, rest) i apart =
    let j = flex_other_payloads_stay fllen sllen t s m c.event c.notes x step.leads i (apart c.event (inl refl)) in
    flex_others_stay_in_runs fllen sllen memory t m u cs x rest j (λ e k. apart e (inr k))

pub flex_used_was_used_in_runs : FlexUsedWasUsedInRuns
flex_used_was_used_in_runs fllen sllen memory t s u [] x run i other new = subst (λ (y : FlexState). IsIn x y.machine.used) run i
flex_used_was_used_in_runs fllen sllen memory t s u (c ∷ cs) x (m, step, rest) i other new =
    let j = flex_used_was_used_in_runs fllen sllen memory t m u cs x rest i (λ e k. other e (inr k)) (λ e k. new e (inr k)) in
    flex_used_was_used fllen sllen t s m c.event c.notes x step.leads j (other c.event (inl refl)) (new c.event (inl refl))
