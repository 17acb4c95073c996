use Rattle.std.proofs.Common.{ap, sym, ◌∙◌}
use Rattle.rlsf_heap.specs.Heap.{PayloadView, payload_view}
use Rattle.rlsf_heap.proofs.payload.Payload.into_parts.Goals as goal

pub returns-clause-parts : goal.returns-clause-parts
returns-clause-parts c =
    let p = c.self.inside in let is = c.self.view_is in
    (λ i. payload_view p.part (sym (ap (λ (v : PayloadView). v.align) is) i) p.ticket.name) ∙ is

pub returns-clause-ticket : goal.returns-clause-ticket
returns-clause-ticket c =
    let is = c.self.invariant.0 in
    (is.0, is.1, sym (ap (λ (v : PayloadView). v.align) c.self.view_is) ∙ is.2)

pub returns-clause-some : goal.returns-clause-some
returns-clause-some c = c.self.invariant.1
