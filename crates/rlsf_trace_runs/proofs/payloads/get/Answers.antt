use Rattle.std.proofs.Common.{length, slice_index, arith, refl, sym, ◌∙◌, ap}
use Rattle.rlsf_trace_text.specs.declared.op.Answer.TheVariants.{Byte, Refused}
use Rattle.rlsf_trace_text.specs.declared.op.Op.TheVariants.{Get}
use Rattle.rlsf_trace_text.specs.declared.op.TraceError.TheVariants.{BadOffset, UnknownName}
use Rattle.rlsf_tlsf.proofs.Standing.{bytes_in}
use Rattle.rlsf_trace_runs.specs.Names.{address}
use Rattle.rlsf_trace_runs.proofs.NamedPayloads.{LeadsOn-nothing, owned}
use Rattle.rlsf_trace_runs.proofs.Named.{unnamed}
use Rattle.rlsf_trace_runs.proofs.payloads.get.Goals as goal

pub returns-in-Some-get : goal.returns-in-Some-get
returns-in-Some-get g c = λ s at.
    let (u, owns, holds, long) = owned at c.args.name c.in-Some.payload (sym c.payload_of.ensures.value ∙ c.in-Some.is) in
    let bytes = c.payload.ensures ∙ bytes_in at.stands (address c.in-Some.payload) u holds in
    let (below, value) = c.in-Some-get.ensures.lookup.3 in
    LeadsOn-nothing at (Get c.args.name c.args.offset) (Byte c.in-Some-get.byte.now)
    (u, owns, omega (arith, below, ap length bytes, long), value 0 ∙ ap (λ l. slice_index l c.args.offset) bytes, refl)

pub returns-in-None : goal.returns-in-None
returns-in-None g c = λ s at.
    let (u, owns, holds, long) = owned at c.args.name c.in-Some.payload (sym c.payload_of.ensures.value ∙ c.in-Some.is) in
    let bytes = c.payload.ensures ∙ bytes_in at.stands (address c.in-Some.payload) u holds in
    LeadsOn-nothing at (Get c.args.name c.args.offset) (Refused BadOffset) ((u, owns, omega (arith, c.in-None.ensures.lookup.3, ap length bytes, long)), refl)

pub returns-in_default : goal.returns-in_default
returns-in_default g c = λ s at.
    LeadsOn-nothing at (Get c.args.name c.args.offset) (Refused UnknownName) (unnamed at.named c.args.name (sym c.payload_of.ensures.value ∙ c.in_default.is), refl)
