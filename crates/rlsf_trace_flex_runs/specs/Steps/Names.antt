-- The state of a run over a source, from its table of names.
use Rattle.std.specs.Prelude.{◌≡◌, ℕ, nat_eq, List, [], ◌∷◌, Option}
use Rattle.std.specs.HashMap.{get}
use Rattle.std.specs.Option.{option_map}
use Rattle.rlsf_base.specs.declared.memory.range.Range.{Range}
use Rattle.rlsf_base.specs.Space.{range_of}
use Rattle.rlsf_flex.specs.Outside.{KeepsOutside}
use Rattle.rlsf_flex.specs.StandsFor.{FlexContents, FlexStandsFor}
use Rattle.rlsf_trace_flex_runs.specs.FlexRuns.{DoesFlex, FlexRunState}
use Rattle.rlsf_model.specs.FlexRun.{IsFlexStep}
use Rattle.rlsf_model.specs.FlexState.{FlexState}
use Rattle.rlsf_model.specs.Note.{Note, LeadsBy}
use Rattle.rlsf_model.specs.Run.{Event}
use Rattle.rlsf_model.specs.Terms.{Terms}
use Rattle.rlsf_trace_runs.specs.Events.{IsDoneBy}
use Rattle.rlsf_trace_runs.specs.Names.{address, AreNamed, NameTable}
use Rattle.rlsf_trace_text.specs.declared.op.Answer.{Answer}
use Rattle.rlsf_trace_text.specs.declared.op.Op.{Op}

-- the addresses of a table's payloads, by their names
abbrev pub named_in : NameTable → ℕ → Option ℕ
named_in table = λ name. option_map address (get nat_eq table name)

-- the state of the run: the allocator's state, and the names of the table
abbrev pub run_of : {S : Type 0} → FlexContents S → NameTable → FlexRunState
run_of v table = record { flex = v.state; named = named_in table }

-- the allocator's parts represent its state, and the table has its live payloads
pub record IsFlexAt {S : Type 0} (fllen sllen : ℕ) (terms : S → Terms) (owes : S → List Range → Type 0) (v : FlexContents S) (table : NameTable) : Type 0 where
  pub stands : FlexStandsFor fllen sllen terms owes v
  pub are_named : AreNamed v.state.machine table (named_in table)

-- What an op with its answer does to the model's state. It makes no call, asks nothing, and the state stays; or it makes one call
-- that is allowed, with answers that a source may give.
pub data MakesFlex (fllen sllen : ℕ) (memory : Range) (terms : Terms) (s : FlexState) (op : Op) (answer : Answer) (notes : List Note) (u : FlexState) : Type 0 where
  no_call : IsDoneBy op answer [] → notes ≡ [] → u ≡ s → MakesFlex fllen sllen memory terms s op answer notes u
  one_call : (e : Event) → IsDoneBy op answer (e ∷ []) → IsFlexStep fllen sllen memory terms s e notes u → MakesFlex fllen sllen memory terms s op answer notes u

-- An op and its answer lead on from this state of the run. There are notes with which the op, by one call of the model or none,
-- leads to the state of the allocator and the table. These notes alone change the source's value. Bytes outside of all ranges that
-- ever were outstanding are unchanged.
pub record LeadsOn {S : Type 0} (fllen sllen : ℕ) (terms : S → Terms) (owes : S → List Range → Type 0) (leads : S → Note → S → Type 0) (v : FlexContents S)
    (table : NameTable) (op : Op) (answer : Answer) (w : FlexContents S) (new : NameTable) : Type 0 where
  pub notes : List Note
  pub does : DoesFlex fllen sllen (terms v.source) (run_of v table) op answer notes (run_of w new)
  pub makes : MakesFlex fllen sllen (range_of v.memory) (terms v.source) v.state op answer notes w.state
  pub leads_by : LeadsBy leads v.source notes w.source
  pub outside : KeepsOutside v.memory v.state.pools notes w.memory w.state.pools
  pub at : IsFlexAt fllen sllen terms owes w new
