-- FlexRuns: what the ops of a trace do to the reference model over a source, and their answers.
use Rattle.std.specs.Prelude.{◌≡◌, ℕ, ◌++◌, Bool, true, false, List, [], ◌∷◌, Option, None}
use Rattle.rlsf_base.specs.Addr.{reply}
use Rattle.rlsf_base.specs.Layout.{IsLayout}
use Rattle.rlsf_model.specs.FlexAllocate.{FlexAllocates}
use Rattle.rlsf_model.specs.FlexReallocate.{FlexReallocates}
use Rattle.rlsf_model.specs.FlexState.{FlexState, flex_empty, with_machine}
use Rattle.rlsf_model.specs.Note.{Note}
use Rattle.rlsf_model.specs.State.{Used}
use Rattle.rlsf_model.specs.Terms.{Terms}
use Rattle.rlsf_model.specs.Trim.{Trims}
use Rattle.rlsf_trace_runs.specs.Runs.{Does, Owns, RunState, with_name}
use Rattle.rlsf_trace_text.specs.declared.op.Op.{Op}
use Rattle.rlsf_trace_text.specs.declared.op.Op.TheVariants.{Insert, Append, Alloc, Realloc, Block as OpBlock, Trim}
use Rattle.rlsf_trace_text.specs.declared.op.Answer.{Answer}
use Rattle.rlsf_trace_text.specs.declared.op.Answer.TheVariants.{Placed, Trimmed, Refused}
use Rattle.rlsf_trace_text.specs.declared.op.TraceError.TheVariants.{NotForFlex, NotForTlsf}

-- the state of a run over a source: the model's state over the source, and the address of each live payload by its name
pub record FlexRunState : Type 0 where
  pub flex : FlexState
  pub named : ℕ → Option ℕ

-- nothing is done yet
abbrev pub flex_beginning : FlexRunState
flex_beginning = record { flex = flex_empty; named = λ name. None }

-- the run as one without a source: its pools are the outstanding ranges
abbrev pub without_source : FlexRunState → RunState
without_source s = record { machine = s.flex.machine; named = s.named; pools = s.flex.pools }

-- with the model's state and the names that an op without a question left
abbrev pub with_run : FlexRunState → RunState → FlexRunState
with_run s r = record { flex = with_machine s.flex r.machine; named = r.named }

-- the op is one on a range: over a source it has no meaning, since the source's ranges are the pools
abbrev pub is_on_range : Op → Bool
is_on_range (Insert r) = true
is_on_range (Append r) = true
is_on_range (OpBlock r index) = true
is_on_range op = false

-- An op, its answer, and its notes. An op on a range is refused. An allocation, a reallocation and a trim are those of the model
-- over a source, and no trim is refused. Every other op is what it is without a source, and asks nothing.
abbrev pub DoesFlex : ℕ → ℕ → Terms → FlexRunState → Op → Answer → List Note → FlexRunState → Type 0
DoesFlex fllen sllen terms s op (Refused NotForFlex) notes t = (is_on_range op ≡ true) × (notes ≡ []) × (t ≡ s)
DoesFlex fllen sllen terms s op (Refused NotForTlsf) notes t = ⊥
DoesFlex fllen sllen terms s (Alloc name layout) (Placed addr) notes t =
    (s.named name ≡ None) × (flex : FlexState) × FlexAllocates fllen sllen terms s.flex layout.size layout.align (reply addr) notes flex
    × (t ≡ record { flex = flex; named = with_name name (reply addr) s.named })
DoesFlex fllen sllen terms s (Realloc name size) (Placed addr) notes t =
    (u : Used) × Owns (without_source s) name u × IsLayout size u.align × (flex : FlexState) × FlexReallocates fllen sllen terms s.flex u.payload size (reply addr) notes flex
    × (t ≡ record { flex = flex; named = with_name name (reply addr) s.named })
DoesFlex fllen sllen terms s Trim (Trimmed count) notes t =
    (flex : FlexState) × Trims terms s.flex count notes flex × (t ≡ record { flex = flex; named = s.named })
DoesFlex fllen sllen terms s op answer notes t =
    (is_on_range op ≡ false) × (r : RunState) × Does fllen sllen terms.space (without_source s) op answer r × (notes ≡ []) × (t ≡ with_run s r)

-- ops, one after another, each with one answer, and all that the source was asked, in order
abbrev pub RunsFlex : ℕ → ℕ → Terms → FlexRunState → List Op → List Answer → List Note → FlexRunState → Type 0
RunsFlex fllen sllen terms s [] [] notes t = (notes ≡ []) × (t ≡ s)
RunsFlex fllen sllen terms s [] (answer ∷ answers) notes t = ⊥
RunsFlex fllen sllen terms s (op ∷ ops) [] notes t = ⊥
RunsFlex fllen sllen terms s (op ∷ ops) (answer ∷ answers) notes t =
    (u : FlexRunState) × (first : List Note) × (others : List Note) × (notes ≡ first ++ others)
    × DoesFlex fllen sllen terms s op answer first u × RunsFlex fllen sllen terms u ops answers others t
