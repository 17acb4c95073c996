-- What a complete run of ops leaves of its allocator over a source.
use Rattle.std.specs.Prelude.{◌≡◌, ℕ, List, []}
use Rattle.rlsf_base.specs.Space.{range_of}
use Rattle.rlsf_flex.specs.Outside.{KeepsOutside}
use Rattle.rlsf_flex.specs.StandsFor.{FlexContents}
use Rattle.rlsf_trace_flex_runs.specs.FlexEvents.{RunsFlexByEvents}
use Rattle.rlsf_trace_flex_runs.specs.FlexRuns.{FlexRunState, RunsFlex, flex_beginning}
use Rattle.rlsf_model.specs.FlexState.{flex_empty}
use Rattle.rlsf_model.specs.Note.{Note, LeadsBy}
use Rattle.rlsf_model.specs.Terms.{Terms}
use Rattle.rlsf_trace_text.specs.declared.op.Op.{Op}
use Rattle.rlsf_trace_text.specs.declared.op.Answer.{Answer}

-- From no chunk, no range and no name, the ops with these answers and notes lead to the state in the allocator after them. The
-- notes lead the source on. A run of the model's calls with these notes reaches that state, too. Bytes outside of all ranges that
-- the source ever provided are unchanged.
abbrev pub RunsFlexTo : {S : Type 0} → ℕ → ℕ → (S → Terms) → (S → Note → S → Type 0) → FlexContents S → List Op → List Answer → FlexContents S
    → Type 0
RunsFlexTo fllen sllen terms leads before ops answers after =
    (notes : List Note) × (t : FlexRunState)
    × RunsFlex fllen sllen (terms before.source) flex_beginning ops answers notes t × LeadsBy leads before.source notes after.source
    × (after.state ≡ t.flex) × KeepsOutside before.memory [] notes after.memory t.flex.pools
    × RunsFlexByEvents fllen sllen (range_of before.memory) (terms before.source) flex_empty ops answers notes after.state
