use Rattle.std.proofs.Common.{length, refl, sym, ◌∙◌, ap}
use Rattle.rlsf_trace_runs.proofs.Named.{unnamed}
use Rattle.rlsf_trace_flex_runs.proofs.NamedPayloads.{LeadsOn-nothing, owned}
use Rattle.rlsf_trace_flex_runs.proofs.payloads.usable.Goals as goal

pub returns-in-Some : goal.returns-in-Some
returns-in-Some g c =
    let (u, owns, holds, its, long) = owned c.requires c.args.name c.in-Some.payload (sym c.payload_of.ensures.value ∙ c.in-Some.is) in
    LeadsOn-nothing c.requires _ _ refl (refl, _, (u, owns, c.allocation_usable_size.ensures ∙ ap length its ∙ long, refl), refl, refl)

pub returns-in-None : goal.returns-in-None
returns-in-None g c =
    LeadsOn-nothing c.requires _ _ refl (refl, _, (unnamed c.requires.are_named c.args.name (sym c.payload_of.ensures.value ∙ c.in-None.is), refl), refl, refl)
