-- The calls of the reference model that the ops of a run make.
use Rattle.std.specs.Prelude.{◌≡◌, ℕ, List, [], ◌∷◌, ◌++◌, Option, Some, None}
use Rattle.rlsf_base.specs.Addr.{reply}
use Rattle.rlsf_base.specs.declared.memory.range.Range.{Range}
use Rattle.rlsf_model.specs.Run.{Event, insert, append, allocate, deallocate, reallocate, fill, trim, Runs}
use Rattle.rlsf_model.specs.State.{State}
use Rattle.rlsf_trace_text.specs.declared.op.Op.{Op}
use Rattle.rlsf_trace_text.specs.declared.op.Op.TheVariants.{Insert, Append, Alloc, Free, FreeUnknown, Realloc, ReallocNoMove, Fill, Put, Trim}
use Rattle.rlsf_trace_text.specs.declared.op.Answer.{Answer}
use Rattle.rlsf_trace_text.specs.declared.op.Answer.TheVariants.{Inserted, Appended, Placed, Done, Trimmed}

-- a reallocation without a move is the model's reallocation, with the payload's own address as its reply; without room it is no
-- call
abbrev pub unmoved_calls : ℕ → ℕ → Option ℕ → List Event
unmoved_calls old size None = []
unmoved_calls old size (Some addr) = reallocate old size (Some addr) ∷ []

-- The calls of the model that an op with its answer makes: one or none. A refusal, a read and a reallocation without a move and
-- without room make none. An op that sets one byte or all bytes is a fill. A trim that isn't refused is one over a source.
abbrev pub IsDoneBy : Op → Answer → List Event → Type 0
IsDoneBy (Insert r) (Inserted len) es = es ≡ insert r (reply len) ∷ []
IsDoneBy (Append r) (Appended more) es = es ≡ append r more ∷ []
IsDoneBy (Alloc name layout) (Placed addr) es = es ≡ allocate layout.size layout.align (reply addr) ∷ []
IsDoneBy (Free name) Done es = (addr : ℕ) × (es ≡ deallocate addr ∷ [])
IsDoneBy (FreeUnknown name) Done es = (addr : ℕ) × (es ≡ deallocate addr ∷ [])
IsDoneBy (Realloc name size) (Placed addr) es = (old : ℕ) × (es ≡ reallocate old size (reply addr) ∷ [])
IsDoneBy (ReallocNoMove name size) (Placed addr) es = (old : ℕ) × (es ≡ unmoved_calls old size (reply addr))
IsDoneBy (Fill name byte) Done es = (addr : ℕ) × (bytes : List ℕ) × (es ≡ fill addr bytes ∷ [])
IsDoneBy (Put name offset byte) Done es = (addr : ℕ) × (bytes : List ℕ) × (es ≡ fill addr bytes ∷ [])
IsDoneBy Trim (Trimmed count) es = es ≡ trim count ∷ []
IsDoneBy op answer es = es ≡ []

-- so for ops, one after another, each with one answer
abbrev pub AreDoneBy : List Op → List Answer → List Event → Type 0
AreDoneBy [] [] es = es ≡ []
AreDoneBy [] (answer ∷ answers) es = ⊥
AreDoneBy (op ∷ ops) [] es = ⊥
AreDoneBy (op ∷ ops) (answer ∷ answers) es = (now : List Event) × (later : List Event) × (es ≡ now ++ later) × IsDoneBy op answer now × AreDoneBy ops answers later

-- the ops with their answers are a run of the model's calls from one state to another; its caller may make each call
abbrev pub RunsByEvents : ℕ → ℕ → Range → State → List Op → List Answer → State → Type 0
RunsByEvents fllen sllen memory s ops answers t = (es : List Event) × AreDoneBy ops answers es × Runs fllen sllen memory s es t
