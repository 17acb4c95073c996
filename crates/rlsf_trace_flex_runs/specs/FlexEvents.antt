-- The calls that the ops of a run make of the reference model over a source.
use Rattle.std.specs.Prelude.{◌≡◌, ℕ, List}
use Rattle.rlsf_base.specs.declared.memory.range.Range.{Range}
use Rattle.rlsf_model.specs.FlexRun.{FlexEvent, IsFlexRun, events_in, notes_in}
use Rattle.rlsf_model.specs.FlexState.{FlexState}
use Rattle.rlsf_model.specs.Note.{Note}
use Rattle.rlsf_model.specs.Terms.{Terms}
use Rattle.rlsf_trace_runs.specs.Events.{AreDoneBy}
use Rattle.rlsf_trace_text.specs.declared.op.Answer.{Answer}
use Rattle.rlsf_trace_text.specs.declared.op.Op.{Op}

-- The ops with their answers are a run of the model's calls from one state to another. A caller may make each call, with answers
-- that a source may give. The notes are all its questions, in order.
abbrev pub RunsFlexByEvents : ℕ → ℕ → Range → Terms → FlexState → List Op → List Answer → List Note → FlexState → Type 0
RunsFlexByEvents fllen sllen memory terms s ops answers notes t =
    (cs : List FlexEvent) × AreDoneBy ops answers (events_in cs) × (notes_in cs ≡ notes) × IsFlexRun fllen sllen memory terms s cs t
