-- Bytes that are spare after an op were spare before it, so what each op keeps, a run of them keeps.
use Rattle.std.proofs.Common.{ℕ, arith, ◌∙◌, subst}
use Rattle.rlsf_base.specs.declared.memory.range.Range.{Range}
use Rattle.rlsf_base.specs.Space.{Space, SamePlace}
use Rattle.rlsf_model.specs.State.{State}
use Rattle.rlsf_blocks.specs.Spare.{IsSpare, KeepsSpare}
use Rattle.rlsf_blocks.proofs.RepresentedStates.SpareBytes.{IsSpare-before}
use Rattle.rlsf_trace_text.specs.declared.op.Answer.{Answer}
use Rattle.rlsf_trace_text.specs.declared.op.Op.{Op}
use Rattle.rlsf_trace_runs.proofs.Events.{Makes, no_call, one_call}

-- an op makes no byte spare that wasn't
IsSpare-before_op : (fllen sllen : ℕ) (memory : Range) (s t : State) (op : Op) (answer : Answer) (a : ℕ) → Makes fllen sllen memory s op answer t → IsSpare t a
    → IsSpare s a
IsSpare-before_op fllen sllen memory s t op answer a (no_call _ is) spare = subst (λ x. IsSpare x a) is spare
IsSpare-before_op fllen sllen memory s t op answer a (one_call e _ lasts _ leads) spare = IsSpare-before fllen sllen s t e a lasts leads spare

-- what is kept up to an op, and by it
pub KeepsSpare-op : (fllen sllen : ℕ) (memory : Range) (m n o : Space) (s t u : State) (op : Op) (answer : Answer) → SamePlace m n → Makes fllen sllen memory t op answer u
    → KeepsSpare m s n t → KeepsSpare n t o u → KeepsSpare m s o u
KeepsSpare-op fllen sllen memory m n o s t u op answer place step first second a from to was is =
    let mid = IsSpare-before_op fllen sllen memory t u op answer a step is in
    second a (omega (arith, place.0)) (omega (arith, place.0, place.1)) mid is ∙ first a from to was mid
