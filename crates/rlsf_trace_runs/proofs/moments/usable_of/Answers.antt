use Rattle.std.proofs.Common.{arith, length, Some, sym, ◌∙◌, ap, subst}
use Rattle.rlsf_tlsf.proofs.Standing.{bytes_in, some_live_in}
use Rattle.rlsf_trace_runs.specs.Names.{address}
use Rattle.rlsf_trace_runs.proofs.NamedPayloads.{owned}
use Rattle.rlsf_trace_runs.specs.Steps.Changes.{Measures}
use Rattle.rlsf_trace_runs.proofs.moments.usable_of.Goals as goal

pub allocation_usable_size-requires : goal.allocation_usable_size-requires
allocation_usable_size-requires g c =
    let (s, at) = c.requires in
    let p = c.in-Some-payload.payload in
    let (u, owns, holds, _) = owned at c.in-Some.name p (sym c.payload.ensures ∙ c.in-Some-payload.is) in
    (omega arith, some_live_in at.stands (address p) (u, holds))

pub returns : goal.returns
returns g c = λ s at.
    let p = c.in-Some-payload.payload in
    let (u, owns, holds, long) = owned at c.in-Some.name p (sym c.payload.ensures ∙ c.in-Some-payload.is) in
    subst (λ o. Measures s o (Some c.allocation_usable_size.result)) (sym c.in-Some.is ∙ c.name_of.ensures)
    (u, owns, c.allocation_usable_size.ensures ∙ ap length (bytes_in at.stands (address p) u holds) ∙ long)
