-- What a step of the reference model over the page source leaves.
use Rattle.std.proofs.Common.{◌≡◌, List, [], Some, None, sym, ap, subst, inl, inr}
use Rattle.rlsf_base.specs.declared.memory.range.Range.{Range}
use Rattle.rlsf_model.specs.Answers.{MayAnswerAll}
use Rattle.rlsf_model.specs.Callers.{Changes, payload_at}
use Rattle.rlsf_model.specs.FlexRun.{FlexLeads, FlexMayCall, IsFlexStep}
use Rattle.rlsf_model.specs.FlexState.{FlexState, with_machine}
use Rattle.rlsf_model.specs.FlexWellFormed.{IsFlexWellFormed}
use Rattle.rlsf_model.specs.Growth.{refused}
use Rattle.rlsf_model.specs.Note.{LeadsBy, Note}
use Rattle.rlsf_model.specs.Run.{Event, allocate, deallocate, reallocate, fill, trim}
use Rattle.rlsf_model.specs.State.{State}
use Rattle.rlsf_model.specs.Terms.{Terms}
use Rattle.rlsf_model.proofs.FlexPayloads.{flex_steps_change_map}
use Rattle.rlsf_model.proofs.FlexSteps.{flex_steps_keep_well_formed}
use Rattle.rlsf_model.proofs.Notes.{terms-led}
use Rattle.rlsf_model_global.specs.Constant.{constant_pages}
use Rattle.rlsf_model_global.specs.Cursor.{PageCursor, PageLeads, terms_of}
use Rattle.rlsf_model_global.specs.Pages.{IsPageCursor, MayOwe}
use Rattle.rlsf_model_global.proofs.PageAnswers.{IsAnswered, extended_answered, nothing_asked, valid64}

-- the reference model's steps that a heap makes: no trim
abbrev IsHeaps : Event → Type 0
IsHeaps (trim count) = ⊥
IsHeaps e = Unit {0}

-- the state is well-formed over the source that it was left with, and callers see what the call and its reply say
pub record FlexGoes (memory : Range) (x : PageCursor) (s : FlexState) (e : Event) (notes : List Note) (y : PageCursor) (u : FlexState) : Type 0 where
  pub answers : MayAnswerAll (terms_of x) s.pools notes
  pub flex : IsFlexWellFormed 64 64 memory (terms_of y) u
  pub cursor : IsPageCursor y
  pub owed : MayOwe y u.pools
  pub changes : Changes (payload_at s.machine) e (payload_at u.machine)

module _ {memory : Range} (x y : PageCursor) (is : IsPageCursor x) (s : FlexState) (w : IsFlexWellFormed 64 64 memory (terms_of x) s) (may : MayOwe x s.pools) (u : FlexState)
    (notes : List Note) (led : LeadsBy PageLeads x notes y) where
  -- with other states of the reference model the same is outstanding
  at_machine : (t v : FlexState) (m : State) → v ≡ with_machine t m → IsAnswered x s.pools notes y t.pools → IsAnswered x s.pools notes y v.pools
  at_machine t v m after = subst (IsAnswered x s.pools notes y) (sym (ap (λ (z : FlexState). z.pools) after))

  -- nothing was asked
  alone : (m : State) → notes ≡ [] → u ≡ with_machine s m → IsAnswered x s.pools notes y u.pools
  alone m none after =
      subst (λ ns. IsAnswered x s.pools ns y u.pools) (sym none)
      (subst (IsAnswered x s.pools [] y) (sym (ap (λ (z : FlexState). z.pools) after)) (nothing_asked x y is s.pools may (subst (λ ns. LeadsBy PageLeads x ns y) none led)))

  answered : (e : Event) → IsHeaps e → FlexLeads 64 64 (terms_of x) s e notes u → IsAnswered x s.pools notes y u.pools
  answered (allocate size align None) heaps step = extended_answered x y is s u w may size align refused notes step.extends led
  answered (allocate size align (Some addr)) heaps (inl room) = alone room.machine room.none room.after
  answered (allocate size align (Some addr)) heaps (inr more) =
      at_machine more.meanwhile u more.machine more.after (extended_answered x y is s more.meanwhile w may size align more.outcome notes more.asks.extends led)
  answered (deallocate addr) heaps step = alone step.machine step.none step.after
  answered (reallocate addr size None) heaps step = extended_answered x y is s u w may size step.block.align refused notes step.asks.extends led
  answered (reallocate addr size (Some to)) heaps (inl room) = alone room.machine room.none room.after
  answered (reallocate addr size (Some to)) heaps (inr more) =
      at_machine more.meanwhile u more.machine more.after (extended_answered x y is s more.meanwhile w may size more.block.align more.outcome notes more.asks.extends led)
  answered (fill addr bytes) heaps step = alone step.machine step.none step.after
  answered (trim count) heaps step = absurd heaps
  answered e heaps step = absurd step

  pub flex_goes : (e : Event) → IsHeaps e → FlexMayCall memory s.machine e → FlexLeads 64 64 (terms_of x) s e notes u → FlexGoes memory x s e notes y u
  flex_goes e heaps call step =
      let told = answered e heaps step in
      let flex_step : IsFlexStep 64 64 memory (terms_of x) s e notes u = record { may = call; answers = told.answers; leads = step } in
      record {
        answers = told.answers;
        flex = subst (λ (t : Terms). IsFlexWellFormed 64 64 memory t u) (sym (terms-led terms_of PageLeads constant_pages x y notes led))
            (flex_steps_keep_well_formed 64 64 64 64 memory (terms_of x) s u e notes valid64 w flex_step);
        cursor = told.cursor;
        owed = told.owes;
        changes = flex_steps_change_map 64 64 64 64 memory (terms_of x) s u e notes valid64 w flex_step;
      }
