use Rattle.std.proofs.Common.{length, slice_index, arith, refl, sym, ◌∙◌, ap}
use Rattle.rlsf_trace_runs.proofs.Named.{unnamed}
use Rattle.rlsf_trace_flex_runs.proofs.NamedPayloads.{LeadsOn-nothing, owned}
use Rattle.rlsf_trace_flex_runs.proofs.payloads.get.Goals as goal

pub returns-in_default : goal.returns-in_default
returns-in_default g c =
    LeadsOn-nothing c.requires _ _ refl (refl, _, (unnamed c.requires.are_named c.args.name (sym c.payload_of.ensures.value ∙ c.in_default.is), refl), refl, refl)

pub returns-in-Some-get : goal.returns-in-Some-get
returns-in-Some-get g c =
    let (u, owns, holds, its, long) = owned c.requires c.args.name c.in-Some.payload (sym c.payload_of.ensures.value ∙ c.in-Some.is) in
    let bytes = c.payload.ensures ∙ its in
    let (below, value) = c.in-Some-get.ensures.lookup.3 in
    LeadsOn-nothing c.requires _ _ refl (refl, _, (u, owns, omega (arith, below, ap length bytes, long), value 0 ∙ ap (λ l. slice_index l c.args.offset) bytes, refl), refl, refl)

pub returns-in-None : goal.returns-in-None
returns-in-None g c =
    let (u, owns, holds, its, long) = owned c.requires c.args.name c.in-Some.payload (sym c.payload_of.ensures.value ∙ c.in-Some.is) in
    LeadsOn-nothing c.requires _ _ refl (refl, _, ((u, owns, omega (arith, c.in-None.ensures.lookup.3, ap length (c.payload.ensures ∙ its), long)), refl), refl, refl)
