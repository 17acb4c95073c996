-- An op of a run over a source makes one call of the reference model, or none.
use Rattle.std.proofs.Common.{◌≡◌, ℕ, List, [], ◌∷◌, ◌++◌, Option, Some, None, inl, refl, sym, ◌∙◌, ap, subst}
use Rattle.rlsf_base.specs.declared.memory.range.Range.{Range}
use Rattle.rlsf_model.specs.FlexRun.{IsFlexRun, events_in}
use Rattle.rlsf_model.specs.FlexState.{FlexState, with_machine}
use Rattle.rlsf_model.specs.NoMove.{ReallocatesWithoutMove}
use Rattle.rlsf_model.specs.Note.{Note}
use Rattle.rlsf_model.specs.Run.{deallocate, reallocate, fill, Fills}
use Rattle.rlsf_model.specs.Release.{Deallocates}
use Rattle.rlsf_model.specs.Terms.{Terms}
use Rattle.rlsf_model.proofs.NoMove.{unmoved_is_reallocated}
use Rattle.rlsf_trace_runs.specs.Events.{IsDoneBy, unmoved_calls}
use Rattle.rlsf_trace_text.specs.declared.op.Answer.{Answer}
use Rattle.rlsf_trace_text.specs.declared.op.Op.{Op}
use Rattle.rlsf_trace_flex_runs.specs.FlexEvents.{RunsFlexByEvents}
use Rattle.rlsf_trace_flex_runs.specs.Steps.Names.{MakesFlex, no_call, one_call}

module _ {fllen sllen : ℕ} {memory : Range} {terms : Terms} {s u : FlexState} {op : Op} {answer : Answer} where
  -- with the calls of the ops that follow, it is a run of calls
  pub one_more : {first : List Note} → MakesFlex fllen sllen memory terms s op answer first u → (ops : List Op) (answers : List Answer) (others : List Note) (t : FlexState)
      → RunsFlexByEvents fllen sllen memory terms u ops answers others t → RunsFlexByEvents fllen sllen memory terms s (op ∷ ops) (answer ∷ answers) (first ++ others) t
  one_more (no_call is_done none is) ops answers others t (cs, all, asked, run) =
      (cs, ([], events_in cs, refl, is_done, all), asked ∙ sym (ap (λ ns. ns ++ others) none), subst (λ x. IsFlexRun fllen sllen memory terms x cs t) is run)
  one_more {first} (one_call e is_done step) ops answers others t (cs, all, asked, run) =
      (record { event = e; notes = first } ∷ cs, (e ∷ [], events_in cs, refl, is_done, all), ap (λ ns. first ++ ns) asked, (u, step, run))

  -- a payload is deallocated
  pub made-deallocate : (addr : ℕ) → IsDoneBy op answer (deallocate addr ∷ []) → Deallocates s.machine addr u.machine → u ≡ with_machine s u.machine
      → MakesFlex fllen sllen memory terms s op answer [] u
  made-deallocate addr is_done step same = one_call (deallocate addr) is_done (record {
    may = (step.block, step.holds);
    answers = λ n i. absurd i;
    leads = record { machine = u.machine; leads = step; none = refl; after = same };
  })

  -- a payload is written
  pub made-fill : (addr : ℕ) (bytes : List ℕ) → IsDoneBy op answer (fill addr bytes ∷ []) → Fills s.machine addr bytes u.machine → u ≡ with_machine s u.machine
      → MakesFlex fllen sllen memory terms s op answer [] u
  made-fill addr bytes is_done step same = one_call (fill addr bytes) is_done (record {
    may = (step.block, step.holds);
    answers = λ n i. absurd i;
    leads = record { machine = u.machine; leads = step; none = refl; after = same };
  })

  -- a payload is resized without a move, or the call is refused
  pub made-unmoved : (addr size : ℕ) (reply : Option ℕ) → IsDoneBy op answer (unmoved_calls addr size reply) → ReallocatesWithoutMove s.machine addr size reply u.machine
      → u ≡ with_machine s u.machine
      → MakesFlex fllen sllen memory terms s op answer [] u
  made-unmoved addr size None is_done step same = no_call is_done refl (same ∙ ap (with_machine s) (unmoved_is_reallocated sllen s.machine u.machine addr size None step).1)
  made-unmoved addr size (Some to) is_done step same = one_call (reallocate addr size (Some to)) is_done (record {
    may = (step.block, step.holds);
    answers = λ n i. absurd i;
    leads = inl (record { machine = u.machine; reallocates = (unmoved_is_reallocated sllen s.machine u.machine addr size (Some to) step).0.1; none = refl; after = same });
  })
