-- An op of a run makes one call of the reference model, or none.
use Rattle.std.proofs.Common.{◌≡◌, ℕ, List, [], ◌∷◌, Some, None, slice_set, replicate, refl, sym, ◌∙◌, ap, subst}
use Rattle.std.specs.Int.NonZero.{non_zero_usize_get}
use Rattle.rlsf_base.specs.Addr.{reply}
use Rattle.rlsf_base.specs.declared.memory.range.Range.{Range}
use Rattle.rlsf_base.specs.Space.{range_of}
use Rattle.rlsf_model.specs.Run.{Event, insert, append, allocate, deallocate, reallocate, fill, IsRemoval, Leads, MayCall, Runs}
use Rattle.rlsf_model.specs.State.{State, usable}
use Rattle.rlsf_model.proofs.NoMove.{unmoved_is_reallocated}
use Rattle.rlsf_tlsf.specs.Allocator.{Allocator}
use Rattle.rlsf_trace_text.specs.declared.op.Answer.{Answer}
use Rattle.rlsf_trace_text.specs.declared.op.Answer.TheVariants.{Inserted, Appended, Placed, Done, Byte, Usable, Block, Refused}
use Rattle.rlsf_trace_text.specs.declared.op.Op.{Op}
use Rattle.rlsf_trace_text.specs.declared.op.Op.TheVariants.{Insert, Append, Alloc, Free, FreeUnknown, Realloc, ReallocNoMove, Fill, Put, Get, Usable as OpUsable, Block as OpBlock}
use Rattle.rlsf_trace_runs.specs.declared.tables.Tables.{Tables}
use Rattle.rlsf_trace_runs.specs.Events.{IsDoneBy, RunsByEvents}
use Rattle.rlsf_trace_runs.specs.Runs.{Does, RunState}
use Rattle.rlsf_trace_runs.specs.Steps.Tables.{IsAt}
use Rattle.rlsf_trace_runs.proofs.RunStates.{IsFresh-MayInsert, IsNext-MayAppend}

-- an op with its answer leaves the model's state as it is, or makes one call that is allowed and removes no memory
pub data Makes (fllen sllen : ℕ) (memory : Range) (s : State) (op : Op) (answer : Answer) (t : State) : Type 0 where
  no_call : IsDoneBy op answer [] → t ≡ s → Makes fllen sllen memory s op answer t
  one_call : (e : Event) → IsDoneBy op answer (e ∷ []) → (IsRemoval e → ⊥) → MayCall memory s e → Leads fllen sllen s e t → Makes fllen sllen memory s op answer t

-- one call leads to the model's state of this run state
call_made : {fllen sllen : ℕ} {memory : Range} {s machine : State} {op : Op} {answer : Answer} {t u : RunState} (e : Event) → IsDoneBy op answer (e ∷ [])
    → (IsRemoval e → ⊥) → MayCall memory s e → Leads fllen sllen s e machine
    → t ≡ u → u.machine ≡ machine → Makes fllen sllen memory s op answer t.machine
call_made {fllen} {sllen} {memory} {s} {machine} {op} {answer} {t} {u} e is_done lasts may leads is same =
    subst (Makes fllen sllen memory s op answer) (sym (ap (λ (x : RunState). x.machine) is ∙ same)) (one_call e is_done lasts may leads)

-- no call leaves it
not_called : {fllen sllen : ℕ} {memory : Range} {s t : RunState} {op : Op} {answer : Answer} → IsDoneBy op answer [] → t ≡ s
    → Makes fllen sllen memory s.machine op answer t.machine
not_called is_done is = no_call is_done (ap (λ (x : RunState). x.machine) is)

-- with the calls of the ops that follow, it is a run of calls
pub one_more : {fllen sllen : ℕ} {memory : Range} {s t : State} {op : Op} {answer : Answer} → Makes fllen sllen memory s op answer t
    → (ops : List Op) (answers : List Answer) (u : State)
    → RunsByEvents fllen sllen memory t ops answers u → RunsByEvents fllen sllen memory s (op ∷ ops) (answer ∷ answers) u
one_more {fllen} {sllen} {memory} (no_call is_done is) ops answers u (es, all, runs) = (es, ([], es, refl, is_done, all), subst (λ x. Runs fllen sllen memory x es u) is runs)
one_more {t = t} (one_call e is_done lasts may leads) ops answers u (es, all, runs) = (e ∷ es, (e ∷ [], es, refl, is_done, all), (t, may, leads, runs))

module _ {fllen sllen : ℕ} {v : Allocator} {tables : Tables} {s : RunState} (at : IsAt fllen sllen v tables s) where
  -- what is done by an op is done by the call that it makes
  pub made : (op : Op) (answer : Answer) (t : RunState) → Does fllen sllen (range_of v.memory) s op answer t
      → Makes fllen sllen (range_of v.memory) s.machine op answer t.machine
  made (Insert r) (Refused error) t (_, is) = not_called refl is
  made op (Refused error) t (_, is) = not_called refl is
  made (Insert r) (Inserted len) t (may, machine, step, is) = call_made (insert r (reply len)) refl (λ bad. bad) (IsFresh-MayInsert at r may) step is refl
  made (Append r) (Appended more) t (may, machine, step, is) = call_made (append r more) refl (λ bad. bad) (IsNext-MayAppend at r may) step is refl
  made (Alloc name layout) (Placed addr) t (_, machine, step, is) = call_made (allocate layout.size layout.align (reply addr)) refl (λ bad. bad) layout.valid.aligned step is refl
  made (Free name) Done t (u, owns, machine, step, is) = call_made (deallocate u.payload) (u.payload, refl) (λ bad. bad) (u, (owns.0, refl)) step is refl
  made (FreeUnknown name) Done t (u, owns, machine, step, is) = call_made (deallocate u.payload) (u.payload, refl) (λ bad. bad) (u, (owns.0, refl)) step is refl
  made (Realloc name size) (Placed addr) t (u, owns, _, machine, step, is) =
      call_made (reallocate u.payload size (reply addr)) (u.payload, refl) (λ bad. bad) (u, (owns.0, refl)) step is refl
  made (ReallocNoMove name size) (Placed None) t (u, owns, _, machine, step, is) =
      no_call (u.payload, refl) (ap (λ (x : RunState). x.machine) is ∙ (unmoved_is_reallocated sllen s.machine machine u.payload size None step).1)
  made (ReallocNoMove name size) (Placed (Some addr)) t (u, owns, _, machine, step, is) =
      let to = non_zero_usize_get addr in
      call_made (reallocate u.payload size (Some to)) (u.payload, refl) (λ bad. bad) (u, (owns.0, refl))
      (unmoved_is_reallocated sllen s.machine machine u.payload size (Some to) step).0.1 is refl
  made (Fill name byte) Done t (u, owns, machine, step, is) =
      let bytes = replicate (usable u).len byte in call_made (fill u.payload bytes) (u.payload, bytes, refl) (λ bad. bad) (u, (owns.0, refl)) step is refl
  made (Put name offset byte) Done t (u, owns, _, machine, step, is) =
      let bytes = slice_set u.bytes offset byte in call_made (fill u.payload bytes) (u.payload, bytes, refl) (λ bad. bad) (u, (owns.0, refl)) step is refl
  made (Get name offset) (Byte byte) t (_, _, _, _, is) = not_called refl is
  made (OpUsable name) (Usable bytes) t (_, _, _, is) = not_called refl is
  made (OpBlock r index) (Block block) t (_, _, _, _, is) = not_called refl is
  made op answer t step = absurd step
