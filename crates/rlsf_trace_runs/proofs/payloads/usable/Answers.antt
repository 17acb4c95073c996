use Rattle.std.proofs.Common.{length, refl, sym, ◌∙◌, ap}
use Rattle.rlsf_trace_text.specs.declared.op.Answer.TheVariants.{Usable as Told, Refused}
use Rattle.rlsf_trace_text.specs.declared.op.Op.TheVariants.{Usable}
use Rattle.rlsf_tlsf.proofs.Standing.{bytes_in}
use Rattle.rlsf_trace_runs.specs.Names.{address}
use Rattle.rlsf_trace_runs.proofs.NamedPayloads.{LeadsOn-nothing, owned}
use Rattle.rlsf_trace_text.specs.declared.op.TraceError.TheVariants.{UnknownName}
use Rattle.rlsf_trace_runs.proofs.Named.{unnamed}
use Rattle.rlsf_trace_runs.proofs.payloads.usable.Goals as goal

pub returns-in-Some : goal.returns-in-Some
returns-in-Some g c = λ s at.
    let (u, owns, holds, long) = owned at c.args.name c.in-Some.payload (sym c.payload_of.ensures.value ∙ c.in-Some.is) in
    LeadsOn-nothing at (Usable c.args.name) (Told c.allocation_usable_size.result)
    (u, owns, c.allocation_usable_size.ensures ∙ ap length (bytes_in at.stands (address c.in-Some.payload) u holds) ∙ long, refl)

pub returns-in-None : goal.returns-in-None
returns-in-None g c = λ s at.
    LeadsOn-nothing at (Usable c.args.name) (Refused UnknownName) (unnamed at.named c.args.name (sym c.payload_of.ensures.value ∙ c.in-None.is), refl)
